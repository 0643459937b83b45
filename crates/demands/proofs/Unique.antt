-- UNIQUENESS. Document 01, "What the signature on a promise means": for every input a promise fixes the result, the state and each lent byte.
-- So any two results, with all that was lent, that satisfy an exported function's promise for the same arguments are equal. Each crate proves
-- that of its functions, by name, in its own `Unique`; this page gathers them.
-- Assumes nothing.
pub use Rattle.widen.proofs.Unique as widen-unique
pub use Rattle.rgb.proofs.Unique as rgb-unique
pub use Rattle.timers.proofs.Unique as timers-unique
pub use Rattle.record.proofs.Unique as record-unique
pub use Rattle.compare.proofs.Unique as compare_unique
pub use Rattle.hours.proofs.Unique as hours-unique
pub use Rattle.sensor.proofs.Unique as sensor-unique
pub use Rattle.opcode.proofs.Unique as opcode-unique
pub use Rattle.command.proofs.Unique as command-unique
pub use Rattle.device.proofs.Unique as device-unique
pub use Rattle.ticks.proofs.Unique as ticks-unique
pub use Rattle.judging.proofs.Unique as judging-unique
pub use Rattle.session.proofs.Unique as session-unique
pub use Rattle.stream.proofs.Unique as stream-unique
pub use Rattle.tabled.proofs.Unique as tabled-unique
pub use Rattle.trial.proofs.Unique as trial-unique
