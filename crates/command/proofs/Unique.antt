-- UNIQUENESS: any two results, with all that was lent, that satisfy an exported function's promise for the same arguments are equal. `Post` is
-- the promise itself, as the checker reads the function's `ensures`.
-- Assumes nothing.
use Rattle.command.proofs.acted.Kinds as acted-kinds
use Rattle.command.proofs.acted.Reads as acted
use Rattle.command.specs.contracts.apply
use Rattle.command.proofs.changed.Kinds as changed-kinds
use Rattle.command.proofs.changed.Reads as changed
use Rattle.command.proofs.controlled.Kinds as controlled-kinds
use Rattle.command.proofs.controlled.Reads as controlled
use Rattle.command.proofs.obeyed.Kinds as obeyed-kinds
use Rattle.command.proofs.obeyed.Reads as obeyed
use Rattle.command.proofs.queried.Kinds as queried-kinds
use Rattle.command.proofs.queried.Reads as queried
use Rattle.command.specs.Setting.{changed}
use Rattle.promise.specs.Unique.{Unique, UniqueWalked}
use Rattle.sensor.specs.contracts.settings.Settings as settings
use Rattle.sensor.specs.declared.settings.Settings.{Settings}
use base.Stored.{Coded-set}
use borrow.Fn.World.{World}
use contract.Lifetimes.{Lfts}
use contract.Monad.{fact}
use denote.Triple.Clauses.{AtExit, Clauses}
use denote.Triple.Entry.{Args, Res}
use mathlib.Core.Logic.{∥∥₁_elim}
use mathlib.Core.Path.{refl, sym, ◌≡◌, ◌∙◌}

pub acted_unique : Unique 0 acted-kinds.ps acted-kinds.r acted.Post
acted_unique κs a x y s t p q = p ∙ sym q

pub queried_unique : Unique 0 queried-kinds.ps queried-kinds.r queried.Post
queried_unique κs a x y s t p q = p ∙ sym q

-- of `apply` the promise is the `ensures` of the contract itself, as the checker exports it
abbrev apply_contract : (w : World) → Clauses w.𝓤 apply.ended
apply_contract w = apply.clauses w.𝓛 w.𝓜.mem w.𝓡.run

-- and that is this equation at every model
pub apply_says : (w : World) (κs : Lfts 1) (a : Args apply.signature κs) (x : Res apply.signature κs) (s : AtExit apply.ended κs)
    → (apply_contract w κs a).ensures tt x s ≡ fact w.𝓤 (s.0.now ≡ changed a.0.now a.1.0 a.1.1.0 a.1.1.1.0)
apply_says w κs a x s = refl

-- an equation of settings that holds at a resource is so: settings are coded by numbers, so it has one proof at most
settings_told : (w : World) (x y : Settings) (m : w.M) → (fact w.𝓤 (x ≡ y)).holds m → x ≡ y
settings_told w x y m h = ∥∥₁_elim h (Coded-set (settings.the_row).coded x y) (λ e. e.0)

pub apply_unique : UniqueWalked apply.ended apply_contract Settings (λ κs s. s.0.now)
apply_unique w κs a x y s t g m n p q = (refl, settings_told w _ _ m p ∙ sym (settings_told w _ _ n q))

pub changed_unique : Unique 0 changed-kinds.ps changed-kinds.r changed.Post
changed_unique κs a x y s t p q = p ∙ sym q

pub obeyed_unique : Unique 0 obeyed-kinds.ps obeyed-kinds.r obeyed.Post
obeyed_unique κs a x y s t p q = p ∙ sym q

pub controlled_unique : Unique 0 controlled-kinds.ps controlled-kinds.r controlled.Post
controlled_unique κs a x y s t p q = p ∙ sym q
