-- A refused call leaves the sheet. Assumes nothing.
use Rattle.std.proofs.Common.{◌≡◌, ℕ, Bool, true, false, Some, None, Ok, Err, Option, Result, sym, refl, ap, ◌∙◌}
use Rattle.std.specs.Option.{option_or}
use Rattle.sheet.specs.declared.refusals.Refusal.{Refusal}
use Rattle.sheet.specs.Sheets.{Sheet}
use Rattle.sheet.specs.Causes.{unless}
use Rattle.sheet.specs.Steps.{stepped, checked, settled}

pub refused : {K : Type 0} (o : Option Refusal) (s t : Sheet K) (r : Result ℕ Refusal) (x : Refusal) → r ≡ Err x → Err x ≡ checked o → stepped r s ≡ settled o s t
refused (Some y) s t r x e d = let i : x ≡ y = cc in ap (λ a. stepped a s) (e ∙ ap Err i)
refused None s t r x e d = cc

-- an order refused by its early causes
pub refused_early : {K : Type 0} (o p : Option Refusal) (s t : Sheet K) (r : Result ℕ Refusal) (x : Refusal) → r ≡ Err x → Err x ≡ checked o → stepped r s ≡ settled (option_or o p) s t
refused_early (Some y) p s t r x e d = let i : x ≡ y = cc in ap (λ a. stepped a s) (e ∙ ap Err i)
refused_early None p s t r x e d = cc

pub accepted_step : {K : Type 0} (o : Option Refusal) (s t u : Sheet K) (n : ℕ) → o ≡ None → n ≡ u.head.count → u ≡ t → stepped (Ok n) u ≡ settled o s t
accepted_step o s t u n e d i = (λ j. stepped (Ok (d j)) u) ∙ ap (λ v. stepped (Ok v.head.count) v) i ∙ sym (ap (λ q. settled q s t) e)

-- a check that is passed refuses nothing
pub passed : (o : Option Refusal) → Ok tt ≡ checked o → o ≡ None
passed (Some z) d = cc
passed None d = refl

-- a cause that does not hold leaves the others
pub unless_none : (b : Bool) (r : Refusal) (n : Option Refusal) → unless b r n ≡ None → (b ≡ true) × (n ≡ None)
unless_none true r n e = (refl, e)
unless_none false r n e = cc
