-- Links that are opened and given back one after another.
use Rattle.std.proofs.Common.{◌≡◌, ◌≢◌, ℕ, ◌+◌, ◌<◌, ◌≤◌, List, [], ◌∷◌, ◌++◌, length, map, count_by, sum_by, cond, ap, sym, subst, refl, ◌∙◌, append_assoc, append-nil, min, take, drop, get_or, arith, Ok, IfSome}
use Rattle.std.proofs.lemmas.List.{length-map, length-append, take_all, take_more, map-append, take-append-drop}
use Rattle.std.proofs.lemmas.List.Elements.{filter_map-append}
use Rattle.std.proofs.lemmas.List.Sums.{sum_by-cons}
use Rattle.std.proofs.lemmas.List.Folds.{list_all-map}
use Rattle.brpc_model.specs.Operations.{link_names}
use Rattle.script_facts.proofs.ScriptSizes.{link_count, keeps_limits}
use Rattle.brpc_model.specs.Script.{script_of}
use Rattle.script_items.specs.LineMeaning.{item}
use Rattle.script_items.specs.declared.line.Line.{Line}
use Rattle.brpc_model.specs.Items.{Item, is_open}
use Rattle.std.specs.List.{AllByRecursion, list_all}
use Rattle.brpc_model.specs.ReturnedLink.{LinkEnd}
use Rattle.sock_io.specs.LinkHalves.{OutState, InState, IsFresh, end_of}
use Rattle.sock_io.specs.declared.link.LinkSpec.{LinkSpec}
use Rattle.sock_io.specs.declared.link.Mode.{Mode}
use Rattle.script_links.specs.LinksGivenBack.{IsUntouched, AreUntouched, AreNumbered, IsBeginning, is_open_line, has_piece, has_piece_line, spec_asked, specs_of}

-- one more untouched link
pub one_more : (n : ℕ) (es : List LinkEnd) (e : LinkEnd) → AreUntouched n es → IsUntouched (n + length es) e → AreUntouched n (es ++ e ∷ [])
one_more n [] e h i = (subst (λ (k : ℕ). IsUntouched k e) (omega arith) i, tt)
one_more n (x ∷ xs) e h i = (h.0, one_more (n + 1) xs e h.1 (subst (λ (k : ℕ). IsUntouched k e) (omega arith) i))

-- links with lower numbers are other links
pub others : (n : ℕ) (es : List LinkEnd) → AllByRecursion (λ (e : LinkEnd). e.link < n) es → AllByRecursion (λ (e : LinkEnd). e.link ≢ n) es
others n [] h = tt
others n (e ∷ es) h = (let a = h.0 in λ q. omega arith, others n es h.1)

pub all_more : (n : ℕ) (es : List LinkEnd) (e : LinkEnd) → AllByRecursion (λ (x : LinkEnd). x.link < n) es → e.link ≡ n → AllByRecursion (λ (x : LinkEnd). x.link < n + 1) (es ++ e ∷ [])
all_more n [] e h i = (omega (arith, i), tt)
all_more n (x ∷ xs) e h i = (let a = h.0 in omega arith, all_more n xs e h.1 i)

-- a link that was opened just now is untouched
pub untouched : (out : OutState) (inn : InState) (number n : ℕ) → IsFresh out inn number → number ≡ n → IsUntouched n (end_of out inn)
untouched out inn number n f e = let u = f.unused in record { link = f.link ∙ e; took = u.took; put_faults = u.put_faults; gave = u.gave_bytes; gave_count = u.gave; take_faults = u.take_faults; gave_end = u.gave_end; closed = f.closed; answers = u.answers; takes = u.takes }

pub map_more : {A B : Type 0} (f : A → B) (xs : List A) (x : A) → map f (xs ++ x ∷ []) ≡ map f xs ++ f x ∷ []
map_more f [] x = refl
map_more f (y ∷ ys) x = ap (λ l. f y ∷ l) (map_more f ys x)

-- one more link is opened
pub opened_more : {A : Type 0} (f : A → LinkEnd) (old new : List A) (x : A) → AreUntouched 0 (map f old) → new ≡ old ++ x ∷ [] → IsUntouched (length old) (f x) → AreUntouched 0 (map f new)
opened_more f old new x h e u = subst (AreUntouched 0) (sym (ap (map f) e ∙ map_more f old x)) (one_more 0 (map f old) (f x) h (subst (λ (n : ℕ). IsUntouched n (f x)) (omega (arith, length-map old f)) u))

pub one_longer : {A : Type 0} (old new : List A) (x : A) → new ≡ old ++ x ∷ [] → length new ≡ length old + 1
one_longer old new x e = ap length e ∙ length-append old (x ∷ [])

-- one more link is given back
pub given_more : {A : Type 0} (f : A → LinkEnd) (back more : List LinkEnd) (left rest : List A) (x : A) (all : List LinkEnd) → back ++ map f left ≡ all → left ≡ x ∷ rest → more ≡ back ++ f x ∷ [] → more ++ map f rest ≡ all
given_more f back more left rest x all h l e = ap (λ b. b ++ map f rest) e ∙ append_assoc back (f x ∷ []) (map f rest) ∙ sym (ap (λ xs. back ++ map f xs) l) ∙ h

pub next_number : {A : Type 0} (f : A → LinkEnd) (back : List LinkEnd) (left rest : List A) (x : A) (all : List A) (n next : ℕ) → back ++ map f left ≡ map f all → left ≡ x ∷ rest → length all ≤ 256 → n ≡ length back → next ≡ min (n + 1) 65535 → next ≡ n + 1
next_number f back left rest x all n next h l few e m = omega (arith, few, e, m, ap length h, length-append back (map f left), length-map left f, length-map all f, ap length l)

pub numbered_rest : {A : Type 0} (f : A → LinkEnd) (left rest : List A) (x : A) (n next : ℕ) → AreNumbered n (map f left) → left ≡ x ∷ rest → next ≡ n + 1 → AreNumbered next (map f rest)
numbered_rest f left rest x n next h l e = subst (λ (k : ℕ). AreNumbered k (map f rest)) (sym e) (subst (λ xs. AreNumbered n (map f xs)) l h).1

pub numbered_of : (n : ℕ) (es : List LinkEnd) → AreUntouched n es → AreNumbered n es
numbered_of n [] h = tt
numbered_of n (e ∷ es) h = (h.0.link, numbered_of (n + 1) es h.1)

-- the links of the lines, and of what they say
sum_of : (f : Item → ℕ) (lines : List Line) → sum_by (λ line. f (item line)) lines ≡ sum_by f (map item lines)
sum_of f [] = refl
sum_of f (line ∷ lines) = sum_by-cons (λ l. f (item l)) line lines ∙ ap (λ n. f (item line) + n) (sum_of f lines) ∙ sym (sum_by-cons f (item line) (map item lines))

opens_of : (lines : List Line) → count_by is_open_line lines ≡ length (link_names (map item lines))
opens_of lines = sum_of (λ i. cond (is_open i) 1 0) lines ∙ sym (link_count (map item lines))

pub links_of : (script : List Item) (lines : List Line) → map item lines ≡ script → count_by is_open_line lines ≡ length (link_names script)
links_of script lines e = opens_of lines ∙ ap (λ s. length (link_names s)) e

pub few_links : (bytes : List ℕ) (script : List Item) (lines : List Line) → script_of bytes ≡ Ok script → map item lines ≡ script → count_by is_open_line lines ≤ 31
few_links bytes script lines reads e = let limits = keeps_limits bytes script reads in omega (arith, links_of script lines e, limits.links)

pub pieces_of : (lines : List Line) → list_all has_piece_line lines ≡ list_all has_piece (map item lines)
pieces_of lines = sym (list_all-map has_piece item lines)

-- what holds of all holds with one more of which it holds
pub all_with : {A : Type 0} (P : A → Type 0) (old new : List A) (x : A) → AllByRecursion P old → new ≡ old ++ x ∷ [] → P x → AllByRecursion P new
all_with P old new x h e px = subst (AllByRecursion P) (sym e) (behind P old x h px)
  where
    behind : {A : Type 0} (P : A → Type 0) (xs : List A) (x : A) → AllByRecursion P xs → P x → AllByRecursion P (xs ++ x ∷ [])
    behind P [] x h px = (px, tt)
    behind P (y ∷ ys) x h px = (h.0, behind P ys x h.1 px)

-- what holds of each holds of all of these
pub all_so : {A : Type 0} (P : A → Type 0) → ((x : A) → P x) → (xs : List A) → AllByRecursion P xs
all_so P h [] = tt
all_so P h (x ∷ xs) = (h x, all_so P h xs)

pub all_mapped : {A B : Type 0} (f : A → B) (P : B → Type 0) → ((x : A) → P (f x)) → (xs : List A) → AllByRecursion P (map f xs)
all_mapped f P h [] = tt
all_mapped f P h (x ∷ xs) = (h x, all_mapped f P h xs)

-- links that are untouched took nothing
pub unused_of : {A : Type 0} (f : A → LinkEnd) (n : ℕ) (xs : List A) → AreUntouched n (map f xs) → AllByRecursion (λ (x : A). IfSome (f x).took (λ bytes. bytes ≡ [])) xs
unused_of f n [] h = tt
unused_of f n (x ∷ xs) h = (h.0.took, unused_of f (n + 1) xs h.1)

-- and gave nothing
pub silent_of : {A : Type 0} (f : A → LinkEnd) (n : ℕ) (xs : List A) → AreUntouched n (map f xs) → AllByRecursion (λ (x : A). ((f x).gave_count ≡ 0) × IfSome (f x).gave (λ bytes. bytes ≡ [])) xs
silent_of f n [] h = tt
silent_of f n (x ∷ xs) h = ((h.0.gave_count, h.0.gave), silent_of f (n + 1) xs h.1)

-- ## What the lines ask

specs-append : (mode : Mode) (xs ys : List Line) → specs_of mode (map item (xs ++ ys)) ≡ specs_of mode (map item xs) ++ specs_of mode (map item ys)
specs-append mode xs ys = ap (specs_of mode) (map-append item xs ys) ∙ filter_map-append (spec_asked mode) (map item xs) (map item ys)

-- one line more
pub asked_more : (mode : Mode) (lines : List Line) (i : ℕ) (line : Line) (old new : List LinkSpec) → i < length lines → line ≡ get_or lines i line → old ≡ specs_of mode (map item (take i lines)) → new ≡ old ++ specs_of mode (item line ∷ []) →
    new ≡ specs_of mode (map item (take (i + 1) lines))
asked_more mode lines i line old new within at was is =
    is ∙ ap (λ a. a ++ specs_of mode (item line ∷ [])) was ∙ sym (specs-append mode (take i lines) (line ∷ []))
    ∙ sym (ap (λ ls. specs_of mode (map item ls)) (take_more lines i line within ∙ ap (λ l. take i lines ++ l ∷ []) (sym at)))

-- all lines
pub asked_whole : (mode : Mode) (lines : List Line) (i : ℕ) (asked : List LinkSpec) → length lines ≤ i → asked ≡ specs_of mode (map item (take i lines)) → asked ≡ specs_of mode (map item lines)
asked_whole mode lines i asked all is = is ∙ ap (λ ls. specs_of mode (map item ls)) (take_all i lines all)

-- what the first lines ask is a beginning of what all of them ask
pub asked_front : (mode : Mode) (lines : List Line) (i : ℕ) (asked : List LinkSpec) → asked ≡ specs_of mode (map item (take i lines)) → IsBeginning asked (specs_of mode (map item lines))
asked_front mode lines i asked is = (
  specs_of mode (map item (drop i lines)),
  ap (λ a. a ++ specs_of mode (map item (drop i lines))) is ∙ sym (specs-append mode (take i lines) (drop i lines)) ∙ ap (λ ls. specs_of mode (map item ls)) (take-append-drop i lines),
)

pub begins_whole : (asked whole : List LinkSpec) → asked ≡ whole → IsBeginning asked whole
begins_whole asked whole e = ([], append-nil asked ∙ e)
