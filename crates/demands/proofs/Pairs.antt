-- M-105, PAIRS: "obey priority, enable, disable, filter and every set command only if the same frame comes again, with no frame between, no more than
-- 2 ticks later". Of a device, wherever the two frames lie: in one call or in two, before an event or behind it.
-- (That the first changes nothing else: `first_alone` in `Demand2`.)
-- Assumes nothing.
mod Between
use Prim.Native.Nat.{ℕ, ◌+◌, ◌<◌, ◌≤◌}
use Rattle.demands.proofs.Pairs.Between.{counts_between, remembered_between, sets_between}
use Rattle.demands.proofs.Shared.OneInstance.{counts_loads, happen_present, run_ticks}
use Rattle.demands.proofs.Shared.Runs.{calls_model, model_append}
use Rattle.demands.specs.Alone.{Present}
use Rattle.demands.specs.Happenings.{Call, Happening, carried_out, frame, happen, model_after, model_left, ticks_in}
use Rattle.demands.specs.Pairs.{FirstHalf, NoFrame}
use Rattle.demands.specs.Window.{Calm, Undisturbed, sets_it}
use Rattle.device.proofs.Laws.{frame_acts, frame_answers, frame_first, frame_ignored, frame_loads, frame_repeats, numbered_silent}
use Rattle.device.specs.Device.{instance_at, known, under_way, with_remembered}
use Rattle.device.specs.Frame.{again, counts, first_of, forgetting, frame_log, frame_model, loads, numbered_model, remembering, repeats, sets}
use Rattle.device.specs.declared.model.Model.{Model}
use Rattle.device.specs.declared.pairs.First.{First}
use Rattle.std.specs.Prelude.{None, Option}
use borrow.Author.Tests.{eq-eqb, le-leb, leb-false, leb-true, lt-leb}
use lib.Dec.{eqb, leb}
use mathlib.Core.Bool.{Bool, cond, false, not, true, ◌&&◌}
use mathlib.Core.List.{List, [], ◌++◌, ◌∷◌}
use mathlib.Core.Path.{ap, refl, sym, ◌∙◌, ◌≡◌}
use native.Mathlib.Omega.{arith}

-- ---- WHAT IS REMEMBERED after a frame: itself, where it needs its repeat and is none; else nothing. "Any frame that isn't the repeat drops the
-- remembered one"; so does the repeat
pub remembered_after : (m : Model) (first second third : ℕ)
    → (frame_model m first second third).remembered
    ≡ cond (counts m first second && (sets m second third && not (again m first second third))) (first_of first second third m.tick) None
unfolding numbered_model
remembered_after m first second third = go (counts m first second) refl (sets m second third) refl (again m first second third) refl
  where
    next : Model → Option First
    next x = x.remembered

    other : counts m first second ≡ false → next (frame_model m first second third) ≡ None
    other c = by (loads first second) refl
      where
        by : (l : Bool) → loads first second ≡ l → next (frame_model m first second third) ≡ None
        by true l = ap next (frame_loads m first second third l).0
        by false l = ap next (frame_ignored m first second third l c).0

    go : (c : Bool) → counts m first second ≡ c → (s : Bool) → sets m second third ≡ s → (r : Bool) → again m first second third ≡ r
        → next (frame_model m first second third) ≡ cond (c && (s && not r)) (first_of first second third m.tick) None
    go false c s t r u = other c
    go true c false t r u = ap next (frame_acts m first second third (counts_loads m first second c) c t)
    go true c true t true u = ap next (frame_repeats m first second third (counts_loads m first second c) c t u)
    go true c true t false u = ap next (frame_first m first second third (counts_loads m first second c) c t u)

-- from a device that remembers nothing no frame is a repeat
pub nothing_repeats : (m : Model) (first second third : ℕ) → m.remembered ≡ None → again m first second third ≡ false
unfolding repeats
nothing_repeats m first second third e = ap (λ r. repeats r m.tick first second third) e

-- the same frame is the repeat for 2 ticks
same_again : (first second third t n : ℕ) → repeats (first_of first second third t) (t + n) first second third ≡ leb n 2
unfolding repeats
same_again first second third t n = rw (eq-eqb first first refl, eq-eqb second second refl, eq-eqb third third refl) (by (leb n 2) refl)
  where
    by : (b : Bool) → leb n 2 ≡ b → leb (t + n) (t + 2) ≡ b
    by true e = le-leb (t + n) (t + 2) (omega (arith, leb-true n 2 e))
    by false e = lt-leb (t + n) (t + 2) (omega (arith, leb-false n 2 e))

-- ---- A PAIR: a first half at m, then no frame, then the same frame again
module _ {m : Model} {first second third : ℕ} (f : FirstHalf m first second third) where
  first_left : frame_model m first second third ≡ remembering first second third (under_way m)
  first_left = frame_first m first second third (counts_loads m first second f.counted) f.counted f.setting f.new

  module _ (p : Present second m) (hs : List Happening) (none : NoFrame hs) where
    -- the device when it comes
    abbrev then : Model
    then = model_after (frame_model m first second third) hs

    counted_then : counts then first second ≡ true
    unfolding model_after
    counted_then = counts_between m (frame first second third ∷ hs) first second f.counted

    setting_then : sets then second third ≡ true
    unfolding instance_at
    setting_then =
        sets_between (frame_model m first second third) hs none (happen_present m (frame first second third) p) third
        ∙ ap (λ x. sets x second third) first_left ∙ f.setting

    again_then : again then first second third ≡ leb (ticks_in hs) 2
    again_then =
        rw (remembered_between (frame_model m first second third) hs none, run_ticks (frame_model m first second third) hs, first_left)
        (same_again first second third m.tick (ticks_in hs))

    -- no more than 2 ticks later it acts, as the command by itself, and is forgotten
    pub pair_acts : ticks_in hs ≤ 2
        → (frame_model then first second third ≡ forgetting (numbered_model then second third)) × (frame_log then first second third ≡ [])
    pair_acts h =
        let l = counts_loads then first second counted_then in (
          frame_repeats then first second third l counted_then setting_then (again_then ∙ le-leb (ticks_in hs) 2 h),
          frame_answers then first second third l counted_then ∙ numbered_silent then second third setting_then,
        )

    -- later it is a first half itself
    pub pair_late : 2 < ticks_in hs → FirstHalf then first second third
    pair_late h = record { counted = counted_then; setting = setting_then; new = again_then ∙ lt-leb (ticks_in hs) 2 h }

    -- DEMAND 3: "a pair counts as the setting command, at its second frame, wherever the first one lies": m is any device, before the window, before
    -- the event or in an earlier call, and `then` the one at which the window would have the second
    pub pair_sets : ticks_in hs ≤ 2 → sets_it second then first second third ≡ true
    pair_sets h = rw (counted_then, eq-eqb second second refl, again_then, le-leb (ticks_in hs) 2 h, setting_then) refl

-- and a first half, or any frame that is no repeat, ends no window
pub half_calm : (i : ℕ) (m : Model) (first second third : ℕ) → again m first second third ≡ false → Calm i m (frame first second third)
half_calm i m first second third e = rw e (by (counts m first second && eqb second i))
  where
    by : (b : Bool) → b && false ≡ false
    by true = refl
    by false = refl

pub half_in_window : (i : ℕ) (m : Model) (hs : List Happening) (first second third : ℕ) (later : List Happening) → Undisturbed i m hs
    → again (model_after m hs) first second third ≡ false → Undisturbed i (frame_model (model_after m hs) first second third) later
    → Undisturbed i m (hs ++ (frame first second third ∷ later))
unfolding model_after
half_in_window i m [] first second third later u e w = (half_calm i m first second third e, w)
half_in_window i m (h ∷ hs) first second third later u e w = (u.0, half_in_window i (happen m h) hs first second third later u.1 e w)

-- ---- TWICE IN A ROW: from a device that remembers nothing the same setting frame twice leaves what the command by itself used to leave, and
-- remembers nothing
module _ (m : Model) (first second third : ℕ) (c : counts m first second ≡ true) (s : sets m second third ≡ true) (e : m.remembered ≡ None) where
  half : FirstHalf m first second third
  half = record { counted = c; setting = s; new = nothing_repeats m first second third e }

  abbrev twice : Model
  twice = frame_model (frame_model m first second third) first second third

  pub twice_as_once : twice ≡ numbered_model m second third
  unfolding numbered_model instance_at counts known repeats
  twice_as_once =
      ap (λ x. frame_model x first second third) (first_left half)
      ∙ frame_repeats once first second third (counts_loads m first second c) c s here
      ∙ ap (λ r. with_remembered r (numbered_model m second third)) (sym e)
    where
      once : Model
      once = remembering first second third (under_way m)

      here : again once first second third ≡ true
      here = rw (eq-eqb first first refl, eq-eqb second second refl, eq-eqb third third refl) (le-leb m.tick (m.tick + 2) (omega arith))

  pub twice_forgotten : twice.remembered ≡ None
  unfolding numbered_model
  twice_forgotten = ap (λ x. x.remembered) twice_as_once ∙ e

  -- so a third is a first half again
  pub third_again : again twice first second third ≡ false
  third_again = nothing_repeats twice first second third twice_forgotten

-- ---- DEMAND 1: a first half that was taken is remembered over whatever is refused behind it, and from one call to the next
pub half_stands : (m : Model) (calls : List Call) (before between : List Happening) (first second third : ℕ)
    → carried_out m calls ≡ before ++ (frame first second third ∷ between) → FirstHalf (model_after m before) first second third → NoFrame between
    → (model_left m calls).remembered ≡ first_of first second third (model_after m before).tick
unfolding model_after
half_stands m calls before between first second third e f none =
    ap (λ x. x.remembered) (calls_model m calls ∙ ap (model_after m) e ∙ model_append m before (frame first second third ∷ between))
    ∙ remembered_between (frame_model (model_after m before) first second third) between none
    ∙ ap (λ x. x.remembered) (first_left f)
