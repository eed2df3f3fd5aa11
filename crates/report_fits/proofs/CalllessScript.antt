-- A script without calls has no operation on calls.
use Rattle.std.proofs.Common.{◌≡◌, zero, suc, Bool, true, false, not, List, [], ◌∷◌, refl, ap, sym, ◌∙◌}
use Rattle.std.specs.List.{list_any}
use Rattle.brpc_model.specs.Items.{Item}
use Rattle.seat_programs.specs.ScriptSetupToEnding.{is_later, is_callless}
use Rattle.script_facts.proofs.FilteredLists.{or_parts, Has, some_is}

pub any_none : {A : Type 0} (test : A → Bool) (xs : List A) (x : A) → list_any test xs ≡ false → Has xs x → test x ≡ false
any_none test [] x e h = absurd (cc)
any_none test (y ∷ ys) x e (zero, f) = ap test (sym (some_is y x f)) ∙ (or_parts (test y) (list_any test ys) e).0
any_none test (y ∷ ys) x e (suc k, f) = any_none test ys x (or_parts (test y) (list_any test ys) e).1 (k, f)

not_true : (b : Bool) → not b ≡ true → b ≡ false
not_true false e = refl
not_true true e = absurd (cc)

pub not_later : (script : List Item) → is_callless script ≡ true → (item : Item) → Has script item → is_later item ≡ false
not_later script callless item h = any_none is_later script item (not_true (list_any is_later script) callless) h
