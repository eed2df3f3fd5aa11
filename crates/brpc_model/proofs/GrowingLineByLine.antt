-- What a reader that goes line by line needs of the definitions: how each grows by a line.
use Rattle.std.proofs.Common.{◌≡◌, ℕ, List, [], ◌∷◌, ◌++◌, fold, flat_map, Option, Some, None, Err, bytes_eq, if◌then◌else◌, refl, ap, sym, ◌∙◌, append_assoc, append-nil}
use Rattle.std.specs.List.{list_any}
use Rattle.brpc_model.specs.Items.{Item, mentioned}
use Rattle.brpc_model.specs.LinePlaceFaults.{with_names, names, is_held, held_behind}
use Rattle.brpc_model.specs.Script.{items, with_line}

pub fold_more : {A B : Type 0} (f : B → A → B) (b : B) (xs : List A) (x : A) → fold f b (xs ++ x ∷ []) ≡ f (fold f b xs) x
fold_more f b [] x = refl
fold_more f b (y ∷ ys) x = fold_more f (f b y) ys x

flat_map_more : {A B : Type 0} (f : A → List B) (xs : List A) (x : A) → flat_map f (xs ++ x ∷ []) ≡ flat_map f xs ++ f x
flat_map_more f [] x = append-nil (f x)
flat_map_more f (y ∷ ys) x = ap (λ zs. f y ++ zs) (flat_map_more f ys x) ∙ sym (append_assoc (f y) (flat_map f ys) (f x))

with_names_append : (ns xs ys : List (List ℕ)) → with_names ns (xs ++ ys) ≡ with_names (with_names ns xs) ys
with_names_append ns [] ys = refl
with_names_append ns (x ∷ xs) ys = with_names_append (if list_any (bytes_eq x) ns then ns else ns ++ x ∷ []) xs ys

-- the names with those of one more line
pub names_more : (before : List Item) (item : Item) → names (before ++ item ∷ []) ≡ with_names (names before) (mentioned item)
names_more before item = ap (with_names []) (flat_map_more mentioned before item) ∙ with_names_append [] (flat_map mentioned before) (mentioned item)

-- whether a name is held behind one more line
pub is_held_more : (before : List Item) (item : Item) (name : List ℕ) → is_held (before ++ item ∷ []) name ≡ held_behind name (is_held before name) item
is_held_more before item name = fold_more (held_behind name) _ before item

-- the items with those of one more line
pub items_some : (said : List (Option Item)) (item : Item) → items (said ++ Some item ∷ []) ≡ items said ++ item ∷ []
items_some [] item = refl
items_some (None ∷ said) item = items_some said item
items_some (Some i ∷ said) item = ap (λ is. i ∷ is) (items_some said item)

pub items_none : (said : List (Option Item)) → items (said ++ None ∷ []) ≡ items said
items_none [] = refl
items_none (None ∷ said) = items_none said
items_none (Some i ∷ said) = ap (λ is. i ∷ is) (items_none said)

-- the first fault stays
pub stays : (fault : ℕ × ℕ) (lines : List (List ℕ)) → fold with_line (Err fault) lines ≡ Err fault
stays fault [] = refl
stays fault (line ∷ lines) = stays fault lines
