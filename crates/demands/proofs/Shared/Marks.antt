-- The marks: which of them is at the front of a session, and what it makes of the record there.
-- Assumes nothing.
use Prim.Native.Nat.{ℕ, ◌≤◌}
use Rattle.demands.specs.Numbers.{Declaring, FR, IM, IN, LO, SA, TK}
use Rattle.device.specs.declared.model.Model.{Model}
use Rattle.judging.proofs.Asking.{marked}
use Rattle.judging.specs.Asked.{asked, asked_by, declare_asked, frame_asked, sample_asked, ticks_asked}
use Rattle.record.specs.Marks as marks
use Rattle.record.specs.Marks.{mark_of}
use Rattle.record.specs.Numbers.{word}
use Rattle.record.specs.declared.marks.Mark.TheVariants.{Bus, Declaration, Measurement, Time}
use Rattle.record.specs.declared.marks.Mark.{Mark}
use Rattle.std.proofs.Common.{None, Option, Some}
use borrow.Author.Tests.{eqb-false, eqb-true, ne_eqb}
use lib.Dec.{eqb}
use lib.ListN.{length}
use mathlib.Core.Bool.{Bool, cond, false, true}
use mathlib.Core.List.{List}
use mathlib.Core.Logic.{inl, inr}
use mathlib.Core.Path.{refl, ◌∙◌, ◌≡◌}

-- the mark at the front of `rest`, by its letters
abbrev pub MarkIs : Option Mark → List ℕ → Type 0
MarkIs None rest = (IN rest → ⊥) × (LO rest → ⊥) × (IM rest → ⊥) × (SA rest → ⊥) × (FR rest → ⊥) × (TK rest → ⊥)
MarkIs (Some Declaration) rest = Declaring rest
MarkIs (Some Measurement) rest = SA rest
MarkIs (Some Bus) rest = FR rest
MarkIs (Some Time) rest = TK rest

module _ (rest : List ℕ) (l : 2 ≤ length rest) where
  pub mark_is : MarkIs (mark_of (word rest 0)) rest
  unfolding mark_of
  mark_is = go (eqb w marks.IN) refl (eqb w marks.LO) refl (eqb w marks.IM) refl (eqb w marks.SA) refl (eqb w marks.FR) refl (eqb w marks.TK) refl
    where
      w : ℕ
      w = word rest 0

      go : (a : Bool) → eqb w marks.IN ≡ a → (o : Bool) → eqb w marks.LO ≡ o → (v : Bool) → eqb w marks.IM ≡ v
          → (b : Bool) → eqb w marks.SA ≡ b → (c : Bool) → eqb w marks.FR ≡ c → (d : Bool) → eqb w marks.TK ≡ d
          → MarkIs (cond a (Some Declaration) (cond o (Some Declaration) (cond v (Some Declaration) (cond b (Some Measurement) (cond c (Some Bus) (cond d (Some Time) None)))))) rest
      go true e o i v j b f c g d h = inl (l, eqb-true w marks.IN e)
      go false e true i v j b f c g d h = inr (inl (l, eqb-true w marks.LO i))
      go false e false i true j b f c g d h = inr (inr (l, eqb-true w marks.IM j))
      go false e false i false j true f c g d h = (l, eqb-true w marks.SA f)
      go false e false i false j false f true g d h = (l, eqb-true w marks.FR g)
      go false e false i false j false f false g true h = (l, eqb-true w marks.TK h)
      go false e false i false j false f false g false h = (
        λ p. eqb-false w marks.IN e p.1,
        λ p. eqb-false w marks.LO i p.1,
        λ p. eqb-false w marks.IM j p.1,
        λ p. eqb-false w marks.SA f p.1,
        λ p. eqb-false w marks.FR g p.1,
        λ p. eqb-false w marks.TK h p.1,
      )

  pub unknown_mark : MarkIs None rest → mark_of (word rest 0) ≡ None
  unfolding mark_of
  unknown_mark (a, o, v, b, c, d) =
      rw (
        ne_eqb (word rest 0) marks.IN (λ e. a (l, e)),
        ne_eqb (word rest 0) marks.LO (λ e. o (l, e)),
        ne_eqb (word rest 0) marks.IM (λ e. v (l, e)),
        ne_eqb (word rest 0) marks.SA (λ e. b (l, e)),
        ne_eqb (word rest 0) marks.FR (λ e. c (l, e)),
        ne_eqb (word rest 0) marks.TK (λ e. d (l, e)),
      )

-- a mark decides which kind is asked for
module _ (rest : List ℕ) (m : Model) where
  pub declaring_asked : Declaring rest → asked rest m ≡ declare_asked rest m
  unfolding mark_of asked_by
  declaring_asked (inl (l, e)) = marked rest m l ∙ rw e
  declaring_asked (inr (inl (l, e))) = marked rest m l ∙ rw e
  declaring_asked (inr (inr (l, e))) = marked rest m l ∙ rw e

  pub sa_asked : SA rest → asked rest m ≡ sample_asked rest m
  unfolding mark_of asked_by
  sa_asked (l, e) = marked rest m l ∙ rw e

  pub fr_asked : FR rest → asked rest m ≡ frame_asked rest
  unfolding mark_of asked_by
  fr_asked (l, e) = marked rest m l ∙ rw e

  pub tk_asked : TK rest → asked rest m ≡ ticks_asked rest m
  unfolding mark_of asked_by
  tk_asked (l, e) = marked rest m l ∙ rw e
