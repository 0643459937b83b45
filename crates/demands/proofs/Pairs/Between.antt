-- What happens between two frames, samples and ticks (and declarations), changes neither what is remembered, nor whom a frame counts for, nor what it
-- means there.
-- Assumes nothing.
use Prim.Native.Nat.{ℕ, ◌≤◌}
use Rattle.demands.proofs.Shared.OneInstance.{declared_kind, happen_count, happen_present, held_kind, ticked_own}
use Rattle.demands.specs.Alone.{Present}
use Rattle.demands.specs.Happenings.{Happening, declare, frame, happen, hold, model_after, tick}
use Rattle.demands.specs.Pairs.{NoFrame}
use Rattle.device.proofs.Laws.{below_known, counts_known, declared_remembered, held_remembered, known_below}
use Rattle.device.specs.Device.{instance_at}
use Rattle.device.specs.Frame.{counts, sets}
use Rattle.device.specs.declared.model.Model.{Model}
use Rattle.opcode.specs.Meaning.{is_setting, meant}
use Rattle.sensor.specs.Kind.{sent, taken}
use Rattle.sensor.specs.Tick.{closed, decision_at, kind_after, taken_kind, ticked}
use Rattle.sensor.specs.declared.instance.Instance.{Instance}
use Rattle.sensor.specs.declared.kind.Kind.TheVariants.{Colour, Light, Movement, Occupancy}
use Rattle.sensor.specs.declared.kind.Kind.{Kind}
use Rattle.sensor.specs.declared.settings.Sample.{Sample}
use Rattle.sensor.specs.declared.settings.Settings.{Settings}
use Rattle.ticks.specs.Tick.{tick_model}
use Rattle.timers.specs.declared.Decision.TheVariants.{Reported, Silent, Triggered}
use Rattle.timers.specs.declared.Decision.{Decision}
use mathlib.Core.Bool.{true}
use mathlib.Core.List.{List, [], ◌∷◌}
use mathlib.Core.Path.{ap, refl, ◌∙◌, ◌≡◌}
use native.Mathlib.Omega.{arith}

-- ---- a tick keeps what byte 3 means to an instance: its type decides
meant_taken : (k : Kind) (s : Settings) (held : Sample) (n : ℕ) → meant (taken k s held) n ≡ meant k n
unfolding meant taken
meant_taken (Light l) s held n = refl
meant_taken (Occupancy o) s held n = refl
meant_taken (Movement m) s held n = refl
meant_taken (Colour c) s held n = refl

meant_sent : (k : Kind) (s : Settings) (n : ℕ) → meant (sent k s) n ≡ meant k n
unfolding meant sent
meant_sent (Light l) s n = refl
meant_sent (Occupancy o) s n = refl
meant_sent (Movement m) s n = refl
meant_sent (Colour c) s n = refl

meant_after : (decision : Decision) (k : Kind) (s : Settings) (n : ℕ) → meant (kind_after decision k s) n ≡ meant k n
unfolding kind_after
meant_after Silent k s n = refl
meant_after Triggered k s n = meant_sent k s n
meant_after Reported k s n = meant_sent k s n

meant_ticked : (x : Instance) (n : ℕ) → meant (ticked x).instance.kind n ≡ meant x.kind n
unfolding ticked closed
meant_ticked x n = meant_after (decision_at x) (taken_kind x) x.settings n ∙ meant_taken x.kind x.settings x.held n

-- ---- what is remembered
pub remembered_between : (m : Model) (hs : List Happening) → NoFrame hs → (model_after m hs).remembered ≡ m.remembered
unfolding model_after tick_model
remembered_between m [] none = refl
remembered_between m (declare sensor ∷ hs) none = remembered_between (happen m (declare sensor)) hs none ∙ declared_remembered m sensor
remembered_between m (hold i sample ∷ hs) none = remembered_between (happen m (hold i sample)) hs none ∙ held_remembered m i sample
remembered_between m (frame a b c ∷ hs) none = absurd none
remembered_between m (tick ∷ hs) none = remembered_between (happen m tick) hs none

-- ---- whom it counts for
counts_onward : (m m' : Model) (first second : ℕ) → m.declared ≤ m'.declared → counts m first second ≡ true → counts m' first second ≡ true
unfolding counts
counts_onward m m' first second more c =
    let p = known_below m second (counts_known m first second c) in
    let k = below_known m' second (omega (arith, p.0, more)) p.1 in
    rw k (rw (below_known m second p.0 p.1) at c)

pub counts_between : (m : Model) (hs : List Happening) (first second : ℕ) → counts m first second ≡ true → counts (model_after m hs) first second ≡ true
unfolding model_after
counts_between m [] first second c = c
counts_between m (h ∷ hs) first second c = counts_between (happen m h) hs first second (counts_onward m (happen m h) first second (happen_count m h) c)

-- ---- what it means there
pub sets_between : {i : ℕ} (m : Model) (hs : List Happening) → NoFrame hs → Present i m → (opcode : ℕ) → sets (model_after m hs) i opcode ≡ sets m i opcode
unfolding model_after
sets_between m [] none p n = refl
sets_between m (declare sensor ∷ hs) none p n =
    sets_between (happen m (declare sensor)) hs none (happen_present m (declare sensor) p) n ∙ ap (λ k. is_setting (meant k n)) (declared_kind sensor p)
sets_between m (hold j sample ∷ hs) none p n =
    sets_between (happen m (hold j sample)) hs none (happen_present m (hold j sample) p) n ∙ ap (λ k. is_setting (meant k n)) (held_kind j sample p)
sets_between m (frame a b c ∷ hs) none p n = absurd none
sets_between {i} m (tick ∷ hs) none p n =
    sets_between (happen m tick) hs none (happen_present m tick p) n
    ∙ ap (λ x. is_setting (meant x.kind n)) (ticked_own p) ∙ ap is_setting (meant_ticked (instance_at m i) n)
