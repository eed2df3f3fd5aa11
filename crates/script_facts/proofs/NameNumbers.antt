-- The numbers of names: each name that a script mentions has one, by which it is known.
use Rattle.std.proofs.Common.{◌≡◌, ℕ, zero, suc, ◌+◌, ◌<◌, ◌⊎◌, inl, inr, Bool, true, false, ◌||◌, if◌then◌else◌, List, [], ◌∷◌, ◌++◌, length, flat_map, slice_get, Some, bytes_eq, refl, ap, sym, ◌∙◌, subst, arith}
use Rattle.std.proofs.lemmas.Option.{slice_get_within}
use Rattle.std.proofs.lemmas.Slice.Eq.{bytes_eq-Decides}
use Rattle.std.proofs.lemmas.List.Elements.{Contains-append_left, Contains-append_right}
use Rattle.std.specs.List.{list_any}
use Rattle.brpc_model.specs.Items.{Item, mentioned}
use Rattle.brpc_model.specs.LinePlaceFaults.{with_names, names}
use Rattle.seat_programs.specs.Tasks.{name_number}
use Rattle.script_facts.proofs.FilteredLists.{Has, has_from, contains_from, has_first, has_later, has_cases, has_none, some_is}

-- ## The number of a name

number_step : (n name : List ℕ) (ns : List (List ℕ)) (b : Bool) → bytes_eq n name ≡ b → Has (n ∷ ns) name → (Has ns name → slice_get ns (name_number ns name) ≡ Some name) → slice_get (n ∷ ns) (if b then 0 else name_number ns name + 1) ≡ Some name
number_step n name ns true e h again = ap Some ((bytes_eq-Decides n name).0 e)
number_step n name ns false e h again = behind (has_cases n ns name h)
  where
    behind : (n ≡ name) ⊎ Has ns name → slice_get (n ∷ ns) (name_number ns name + 1) ≡ Some name
    behind (inl same) = absurd (let t : bytes_eq n name ≡ true = (bytes_eq-Decides n name).1 same in cc)
    behind (inr later) = let next : name_number ns name + 1 ≡ suc (name_number ns name) = omega arith in ap (slice_get (n ∷ ns)) next ∙ again later

pub number_at : (ns : List (List ℕ)) (name : List ℕ) → Has ns name → slice_get ns (name_number ns name) ≡ Some name
number_at [] name h = absurd (has_none name h)
number_at (n ∷ ns) name h = number_step n name ns (bytes_eq n name) refl h (number_at ns name)

pub number_within : (ns : List (List ℕ)) (name : List ℕ) → Has ns name → name_number ns name < length ns
number_within ns name h = slice_get_within ns (name_number ns name) name (number_at ns name h)

-- names with one number are one
pub same_name : (ns : List (List ℕ)) (a b : List ℕ) → Has ns a → Has ns b → name_number ns a ≡ name_number ns b → a ≡ b
same_name ns a b h g e = some_is a b (sym (number_at ns a h) ∙ ap (slice_get ns) e ∙ number_at ns b g)

-- ## The names of a script

append_left : {A : Type 0} (xs ys : List A) (x : A) → Has xs x → Has (xs ++ ys) x
append_left xs ys x h = has_from (xs ++ ys) x (Contains-append_left xs ys x (contains_from xs x h))

append_right : {A : Type 0} (xs ys : List A) (x : A) → Has ys x → Has (xs ++ ys) x
append_right xs ys x h = has_from (xs ++ ys) x (Contains-append_right xs ys x (contains_from ys x h))

kept_name : (b : Bool) (ns : List (List ℕ)) (m name : List ℕ) → Has ns name → Has (if b then ns else ns ++ m ∷ []) name
kept_name true ns m name h = h
kept_name false ns m name h = append_left ns (m ∷ []) name h

any_step : (m n : List ℕ) (ns : List (List ℕ)) (b : Bool) → bytes_eq m n ≡ b → (list_any (bytes_eq m) ns ≡ true → Has ns m) → (b || list_any (bytes_eq m) ns) ≡ true → Has (n ∷ ns) m
any_step m n ns true t again e = (zero, ap Some (sym ((bytes_eq-Decides m n).0 t)))
any_step m n ns false t again e = has_later n ns m (again e)

any_has : (m : List ℕ) (ns : List (List ℕ)) → list_any (bytes_eq m) ns ≡ true → Has ns m
any_has m [] e = absurd (cc)
any_has m (n ∷ ns) e = any_step m n ns (bytes_eq m n) refl (any_has m ns) e

new_name : (b : Bool) (ns : List (List ℕ)) (m : List ℕ) → list_any (bytes_eq m) ns ≡ b → Has (if b then ns else ns ++ m ∷ []) m
new_name true ns m e = any_has m ns e
new_name false ns m e = append_right ns (m ∷ []) m (has_first m [])

-- the names behind one more
abbrev one_more : List (List ℕ) → List ℕ → List (List ℕ)
one_more ns m = if list_any (bytes_eq m) ns then ns else ns ++ m ∷ []

with_kept : (ns ms : List (List ℕ)) (name : List ℕ) → Has ns name → Has (with_names ns ms) name
with_kept ns [] name h = h
with_kept ns (m ∷ ms) name h = with_kept (one_more ns m) ms name (kept_name (list_any (bytes_eq m) ns) ns m name h)

either : {A B C : Type 0} → A ⊎ B → (A → C) → (B → C) → C
either (inl a) f g = f a
either (inr b) f g = g b

with_new : (ns ms : List (List ℕ)) (name : List ℕ) → Has ms name → Has (with_names ns ms) name
with_new ns [] name h = absurd (has_none name h)
with_new ns (m ∷ ms) name h =
    let P : List ℕ → Type 0 = λ x. Has (with_names (one_more ns m) ms) x in
    either (has_cases m ms name h)
    (λ same. subst P same (with_kept (one_more ns m) ms m (new_name (list_any (bytes_eq m) ns) ns m refl)))
    (λ later. with_new (one_more ns m) ms name later)

flat_has : (items : List Item) (item : Item) (name : List ℕ) → Has items item → Has (mentioned item) name → Has (flat_map mentioned items) name
flat_has [] item name h g = absurd (has_none item h)
flat_has (i ∷ items) item name h g =
    let P : Item → Type 0 = λ x. Has (mentioned x) name in
    either (has_cases i items item h)
    (λ same. append_left (mentioned i) (flat_map mentioned items) name (subst P (sym same) g))
    (λ later. append_right (mentioned i) (flat_map mentioned items) name (flat_has items item name later g))

pub mentioned_has : (script : List Item) (item : Item) (name : List ℕ) → Has script item → Has (mentioned item) name → Has (names script) name
mentioned_has script item name h g = with_new [] (flat_map mentioned script) name (flat_has script item name h g)
