-- Of a client's books: what was told stays told, and memory that is there was always there.
use Rattle.std.proofs.Common.{◌≡◌, true, false, List, [], ◌∷◌, ◌++◌, sym, ap, ◌∙◌}
use Rattle.std.proofs.lemmas.List.{append_assoc, append-nil}
use Rattle.call_deeds.specs.Below.RpcClient.Told.{Told}
use Rattle.call_deeds.specs.Below.CallErrors.ClientBooks.{Books, starving, Tells, told, lost}

-- there was told no less, and memory that is there was there before
pub record Onward (b c : Books) : Type 0 where
  pub told : (more : List Told) × (c.told ≡ b.told ++ more)
  pub fed : c.starved ≡ false → b.starved ≡ false

pub onward_as : (b c : Books) → c.told ≡ b.told → c.starved ≡ b.starved → Onward b c
onward_as b c e f = record { told = ([], e ∙ sym (append-nil b.told)); fed = λ h. sym f ∙ h }

pub onward_same : (b c : Books) → c ≡ b → Onward b c
onward_same b c e = onward_as b c (ap (λ (y : Books). y.told) e) (ap (λ (y : Books). y.starved) e)

pub onward_then : (b c d : Books) → Onward b c → Onward c d → Onward b d
onward_then b c d x y = record { told = (x.told.0 ++ y.told.0, y.told.1 ∙ (ap (λ (l : List Told). l ++ y.told.0) x.told.1 ∙ append_assoc b.told x.told.0 y.told.0)); fed = λ h. x.fed (y.fed h) }

pub onward_starving : (b : Books) → Onward b (starving b)
onward_starving b = record { told = ([], sym (append-nil b.told)); fed = λ (h : true ≡ false). cc }

pub onward_tells : (x : Told) (b c : Books) → Tells x b c → Onward b c
onward_tells x b c (told e) = record { told = (x ∷ [], ap (λ (y : Books). y.told) e); fed = λ h. sym (ap (λ (y : Books). y.starved) e) ∙ h }
onward_tells x b c (lost e) = onward_then b (starving b) c (onward_starving b) (onward_same (starving b) c e)
