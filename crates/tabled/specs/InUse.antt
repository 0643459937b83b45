-- M-106: "for a tick beyond 48 hours when the table is in use": the last tick that may be reached is the table's.
-- Assumes nothing.
use Rattle.device.specs.Device.{fresh, with_last}
use Rattle.device.specs.declared.model.Model.{Model}
use Rattle.hours.specs.Table.{last_tick}

unfoldable pub in_use : Model
in_use = with_last last_tick fresh
