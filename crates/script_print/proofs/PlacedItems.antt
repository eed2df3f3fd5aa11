-- Where each item of a script may stand, and that the items of the printed script may stand in their new order.
use Rattle.std.proofs.Common.{◌≡◌, ℕ, ◌+◌, Bool, true, false, cond, ◌&&◌, ◌||◌, not, nat_lt, nat_le, List, [], ◌∷◌, ◌++◌, length, fold, map, filter, count_by, Option, Some, None, IfOk, Ok, Err, refl, ap, sym, subst, ◌∙◌, append_assoc, append-nil}
use Rattle.std.specs.List.{list_any}
use Rattle.std.proofs.lemmas.Bool.{cond-true, cond-false, false≢true, true≢false, or_parts, or_from, or_left, and_left, and_right, not-false, both_ways}
use Rattle.std.proofs.lemmas.List.Folds.{list_any-append}
use Rattle.std.proofs.lemmas.List.Elements.{filter-append}
use Rattle.brpc_model.specs.LinePartReads.{Reads, ◌>>=◌}
use Rattle.brpc_model.specs.Items.{Item, Seat, ClientSeat, ReaderSeat, Slots, Requests, First, Open, Client, Send, Call, Expire, Join, Fail, Hold, Drop, Sched, Tick, To, is_client, is_open, is_size, is_sched, is_turn, is_operation, mentioned}
use Rattle.brpc_model.specs.ScriptLineFaults.{line_item}
use Rattle.brpc_model.specs.LinePlaceFaults.{is_same_size, is_misplaced, is_too_many, is_unpaired, is_held, names, with_names, at_its_place}
use Rattle.brpc_model.specs.Script.{Faulty, items, said_behind, one_more, with_line}
use Rattle.brpc_model.specs.ScriptText.{item_text}
use Rattle.brpc_model.proofs.GrowingLineByLine.{names_more, items_some, items_none, stays}
use Rattle.script_print.proofs.Gives.{of_next}
use Rattle.script_print.proofs.PartLemmas.{IsSeat}
use Rattle.script_print.proofs.Formed.{IsFormed, Said, said_formed, line_back}
use Rattle.script_print.specs.PrintedParts.{is_body}
use Rattle.script_print.proofs.ReorderedScriptLines.{by_test, turn_cases, body_cases, clients_same, opens_same, operations_count_same, any_client_same, names_same, held_same, turns_same}

-- an item behind those of the lines before it
pub record Stands (before : List Item) (item : Item) : Type 0 where
  pub formed : IsFormed before item
  pub ordered : is_misplaced before item ≡ false
  pub few : is_too_many before item ≡ false
  pub paired : is_unpaired before item ≡ false

-- items one behind another, the first of them behind others
abbrev pub Stand : List Item → List Item → Type 0
Stand before [] = Unit {0}
Stand before (i ∷ is) = Stands before i × Stand (before ++ i ∷ []) is

pub stand_append : (before is js : List Item) → Stand before is → Stand (before ++ is) js → Stand before (is ++ js)
stand_append before [] js h k = subst (λ b. Stand b js) (append-nil before) k
stand_append before (i ∷ is) js h k = (h.0, stand_append (before ++ i ∷ []) is js h.1 (subst (λ b. Stand b js) (sym (append_assoc before (i ∷ []) is)) k))

-- ## What the lines say stands

-- what a line says stands behind the others
abbrev There : List Item → Option Item → Type 0
There before None = Unit {0}
There before (Some item) = Stands before item

placed : (before : List Item) (said : Option Item) → Said before said → IfOk (at_its_place before said) (There before)
placed before None h = tt
placed before (Some item) h = cases (is_misplaced before item) (is_too_many before item) (is_unpaired before item) refl refl refl
  where
    cases : (m t u : Bool) → is_misplaced before item ≡ m → is_too_many before item ≡ t → is_unpaired before item ≡ u
        → IfOk {E = ℕ} (cond m (Err 8) (cond t (Err 9) (cond u (Err 12) (Ok (Some item))))) (There before)
    cases true t u em et eu = tt
    cases false true u em et eu = tt
    cases false false true em et eu = tt
    cases false false false em et eu = record { formed = h; ordered = em; few = et; paired = eu }

said_there : (before : List Item) (line : List ℕ) → IfOk (said_behind before line) (There before)
said_there before line = of_next (line_item before line) (at_its_place before) (Said before) (There before) (said_formed before line) (placed before)

-- the items of some more lines stand behind those before them
pub record More (before : List Item) (all : List (Option Item)) : Type 0 where
  pub more : List Item
  pub are : items all ≡ before ++ more
  pub stand : Stand before more

pub lines_stand : (ls : List (List ℕ)) (said : List (Option Item)) → IfOk (fold with_line (Ok said) ls) (More (items said))
lines_stand [] said = record { more = []; are = sym (append-nil (items said)); stand = tt }
lines_stand (l ∷ ls) said = goes_on (said_behind (items said) l) (said_there (items said) l) (lines_stand ls (said ++ None ∷ [])) (λ i. lines_stand ls (said ++ Some i ∷ []))
  where
    none : (r : Faulty (List (Option Item))) → IfOk r (More (items (said ++ None ∷ []))) → IfOk r (More (items said))
    none r h = subst (λ b. IfOk r (More b)) (items_none said) h

    some : (i : Item) → Stands (items said) i → (r : Faulty (List (Option Item))) → IfOk r (More (items (said ++ Some i ∷ []))) → IfOk r (More (items said))
    some i h (Err f) m = tt
    some i h (Ok all) m =
        let at : More (items said ++ i ∷ []) all = subst (λ b. More b all) (items_some said i) m in
        record { more = i ∷ at.more; are = at.are ∙ append_assoc (items said) (i ∷ []) at.more; stand = (h, at.stand) }

    goes_on : (r : Reads (Option Item)) → IfOk r (There (items said))
        → IfOk (fold with_line (Ok (said ++ None ∷ [])) ls) (More (items (said ++ None ∷ [])))
        → ((i : Item) → IfOk (fold with_line (Ok (said ++ Some i ∷ [])) ls) (More (items (said ++ Some i ∷ []))))
        → IfOk (fold with_line (one_more said r) ls) (More (items said))
    goes_on (Ok None) h n s = none (fold with_line (Ok (said ++ None ∷ [])) ls) n
    goes_on (Ok (Some i)) h n s = some i h (fold with_line (Ok (said ++ Some i ∷ [])) ls) (s i)
    goes_on (Err k) h n s = subst (λ r. IfOk r (More (items said))) (sym (stays (length said + 1, k) ls)) tt

-- ## What stands is read

pub said_again : (before : List Item) (item : Item) → Stands before item → said_behind before (item_text item) ≡ Ok (Some item)
said_again before item h =
    ap (λ r. r >>= at_its_place before) (line_back before item h.formed)
    ∙ cond-false (is_misplaced before item) (Err 8) (cond (is_too_many before item) (Err 9) (cond (is_unpaired before item) (Err 12) (Ok (Some item)))) h.ordered
    ∙ cond-false (is_too_many before item) (Err 9) (cond (is_unpaired before item) (Err 12) (Ok (Some item))) h.few
    ∙ cond-false (is_unpaired before item) (Err 12) (Ok (Some item)) h.paired

pub lines_again : (is before : List Item) (said : List (Option Item)) → items said ≡ before → Stand before is → fold with_line (Ok said) (map item_text is) ≡ Ok (said ++ map (λ i. Some i) is)
lines_again [] before said e h = ap (λ s. Ok s) (sym (append-nil said))
lines_again (i ∷ is) before said e h =
    let here : said_behind (items said) (item_text i) ≡ Ok (Some i) = ap (λ b. said_behind b (item_text i)) e ∙ said_again before i h.0 in
    ap (λ r. fold with_line (one_more said r) (map item_text is)) here
    ∙ lines_again is (before ++ i ∷ []) (said ++ Some i ∷ []) (items_some said i ∙ ap (λ b. b ++ i ∷ []) e) h.1
    ∙ ap (λ s. Ok s) (append_assoc said (Some i ∷ []) (map (λ i. Some i) is))

-- ## Other items before

-- the parts of the tests that depend on the items before
unpaired_same : (a b : List Item) → ((n : List ℕ) → is_held a n ≡ is_held b n) → (i : Item) → is_unpaired a i ≡ is_unpaired b i
unpaired_same a b e (Hold n) = e n
unpaired_same a b e (Drop n) = ap not (e n)
unpaired_same a b e other = refl

-- the test for one too many, by the counts
abbrev many : Item → ℕ → ℕ → ℕ → Bool → List (List ℕ) → Bool
many i cs os ops turns ns = (is_client i && nat_le 31 cs) || (is_open i && nat_le 31 os) || (is_operation i && nat_le 4096 ops) || turns || nat_lt 64 (length ns)

many_same : (a b : List Item) (i : Item) → filter is_body a ≡ filter is_body b → (is_turn i && nat_le 4096 (count_by is_turn a)) ≡ (is_turn i && nat_le 4096 (count_by is_turn b)) → is_too_many a i ≡ is_too_many b i
many_same a b i e turns =
    let named : names (a ++ i ∷ []) ≡ names (b ++ i ∷ []) = names_more a i ∙ ap (λ ns. with_names ns (mentioned i)) (names_same a b e) ∙ sym (names_more b i) in
    ap (λ n. many i n (count_by is_open a) (count_by is_operation a) (is_turn i && nat_le 4096 (count_by is_turn a)) (names (a ++ i ∷ []))) (clients_same a b e)
    ∙ ap (λ n. many i (count_by is_client b) n (count_by is_operation a) (is_turn i && nat_le 4096 (count_by is_turn a)) (names (a ++ i ∷ []))) (opens_same a b e)
    ∙ ap (λ n. many i (count_by is_client b) (count_by is_open b) n (is_turn i && nat_le 4096 (count_by is_turn a)) (names (a ++ i ∷ []))) (operations_count_same a b e)
    ∙ ap (λ t. many i (count_by is_client b) (count_by is_open b) (count_by is_operation b) t (names (a ++ i ∷ []))) turns
    ∙ ap (λ ns. many i (count_by is_client b) (count_by is_open b) (count_by is_operation b) (is_turn i && nat_le 4096 (count_by is_turn b)) ns) named

-- the four reasons for a wrong place
pub record InOrder (before : List Item) (i : Item) : Type 0 where
  pub sized : (is_size i && list_any (λ j. not (is_size j) || is_same_size i j) before) ≡ false
  pub begun : (is_operation i && not (is_open i) && not (list_any is_client before)) ≡ false
  pub early : ((is_operation i || is_client i || is_sched i) && list_any is_sched before) ≡ false
  pub late : (is_turn i && not (list_any is_sched before)) ≡ false

in_order : (before : List Item) (i : Item) → is_misplaced before i ≡ false → InOrder before i
in_order before i e =
    let a = is_size i && list_any (λ j. not (is_size j) || is_same_size i j) before in
    let b = is_operation i && not (is_open i) && not (list_any is_client before) in
    let c = (is_operation i || is_client i || is_sched i) && list_any is_sched before in
    let d = is_turn i && not (list_any is_sched before) in
    let abc = or_parts (a || b || c) d e in
    let ab = or_parts (a || b) c abc.0 in
    let last = or_parts a b ab.0 in
    record { sized = last.0; begun = last.1; early = ab.1; late = abc.1 }

pub of_order : (before : List Item) (i : Item) → InOrder before i → is_misplaced before i ≡ false
of_order before i h =
    let a = is_size i && list_any (λ j. not (is_size j) || is_same_size i j) before in
    let b = is_operation i && not (is_open i) && not (list_any is_client before) in
    let c = (is_operation i || is_client i || is_sched i) && list_any is_sched before in
    let d = is_turn i && not (list_any is_sched before) in
    or_from (a || b || c) d (or_from (a || b) c (or_from a b h.sized h.begun) h.early) h.late

begun_same : (a b : List Item) (i : Item) → filter is_body a ≡ filter is_body b → (is_operation i && not (is_open i) && not (list_any is_client b)) ≡ false → (is_operation i && not (is_open i) && not (list_any is_client a)) ≡ false
begun_same a b i e h = ap (λ t. is_operation i && not (is_open i) && not t) (any_client_same a b e) ∙ h

-- ### An operation or `client`

formed_anywhere : (a b : List Item) (i : Item) → is_turn i ≡ false → IsFormed b i → IsFormed a i
formed_anywhere a b (Tick s n) e h = absurd (true≢false e)
formed_anywhere a b (To s k) e h = absurd (true≢false e)
formed_anywhere a b (Slots n) e h = h
formed_anywhere a b (Requests n) e h = h
formed_anywhere a b (First v) e h = h
formed_anywhere a b (Open name shape) e h = h
formed_anywhere a b Client e h = h
formed_anywhere a b (Send name bytes) e h = h
formed_anywhere a b (Call call) e h = h
formed_anywhere a b (Expire client number) e h = h
formed_anywhere a b (Join client number) e h = h
formed_anywhere a b (Fail name code) e h = h
formed_anywhere a b (Hold name) e h = h
formed_anywhere a b (Drop name) e h = h
formed_anywhere a b Sched e h = h

body_stands : (a b : List Item) (i : Item) → is_body i ≡ true → filter is_body a ≡ filter is_body b → list_any is_sched a ≡ false → Stands b i → Stands a i
body_stands a b i body e none = body_cases (λ i. Stands b i → Stands a i) stands i body
  where
    stands : (i : Item) → is_size i ≡ false → is_sched i ≡ false → is_turn i ≡ false → Stands b i → Stands a i
    stands i size sched turn h =
        let order = in_order b i h.ordered in
        record {
          formed = formed_anywhere a b i turn h.formed;
          ordered = of_order a i (record {
            sized = and_left (is_size i) (list_any (λ j. not (is_size j) || is_same_size i j) a) size;
            begun = begun_same a b i e order.begun;
            early = and_right (is_operation i || is_client i || is_sched i) (list_any is_sched a) none;
            late = and_left (is_turn i) (not (list_any is_sched a)) turn;
          });
          few = many_same a b i e (and_left (is_turn i) (nat_le 4096 (count_by is_turn a)) turn ∙ sym (and_left (is_turn i) (nat_le 4096 (count_by is_turn b)) turn)) ∙ h.few;
          paired = unpaired_same a b (λ n. held_same a b n e) i ∙ h.paired;
        }

-- the items of the body stand behind others with the same body, where no schedule has begun
pub body_stand : (is a b : List Item) → Stand b is → filter is_body a ≡ filter is_body b → list_any is_sched a ≡ false → Stand a (filter is_body is)
body_stand [] a b h e none = tt
body_stand (i ∷ is) a b h e none = by_test (is_body i) (Stand a (filter is_body (i ∷ is)))
    (λ body.
    let one : filter is_body (i ∷ []) ≡ i ∷ [] = cond-true (is_body i) (i ∷ []) [] body in
    let same : filter is_body (a ++ i ∷ []) ≡ filter is_body (b ++ i ∷ []) = filter-append is_body a (i ∷ []) ∙ ap (λ xs. xs ++ filter is_body (i ∷ [])) e ∙ sym (filter-append is_body b (i ∷ [])) in
    let still : list_any is_sched (a ++ i ∷ []) ≡ false = list_any-append is_sched a (i ∷ []) ∙ or_from (list_any is_sched a) (is_sched i || false) none (or_from (is_sched i) false (body_cases (λ j. is_sched j ≡ false) (λ j s c t. c) i body) refl) in
    subst (Stand a) (sym (cond-true (is_body i) (i ∷ filter is_body is) (filter is_body is) body))
    (body_stands a b i body e none h.0, body_stand is (a ++ i ∷ []) (b ++ i ∷ []) h.1 same still))
    (λ other.
    let none_more : filter is_body (b ++ i ∷ []) ≡ filter is_body b = filter-append is_body b (i ∷ []) ∙ ap (λ xs. filter is_body b ++ xs) (cond-false (is_body i) (i ∷ []) [] other) ∙ append-nil (filter is_body b) in
    subst (Stand a) (sym (cond-false (is_body i) (i ∷ filter is_body is) (filter is_body is) other))
    (body_stand is a (b ++ i ∷ []) h.1 (e ∙ sym none_more) none))

-- ### A line of the schedule

-- behind `sched` there is no operation and no `client`
no_body : (is b : List Item) → Stand b is → list_any is_sched b ≡ true → filter is_body is ≡ []
no_body [] b h s = refl
no_body (i ∷ is) b h s = by_test (is_body i) (filter is_body (i ∷ is) ≡ [])
    (λ body. absurd (both_ways ((is_operation i || is_client i || is_sched i) && list_any is_sched b) (in_order b i h.0.ordered).early (acts i body ∙ s)))
    (λ other. cond-false (is_body i) (i ∷ filter is_body is) (filter is_body is) other ∙ no_body is (b ++ i ∷ []) h.1 (list_any-append is_sched b (i ∷ []) ∙ or_left (list_any is_sched b) (is_sched i || false) s))
  where
    acts : (j : Item) → is_body j ≡ true → ((is_operation j || is_client j || is_sched j) && list_any is_sched b) ≡ list_any is_sched b
    acts j body = ap (λ t. t && list_any is_sched b) (begins j body)
      where
        begins : (j : Item) → is_body j ≡ true → (is_operation j || is_client j || is_sched j) ≡ true
        begins Client e = refl
        begins (Slots n) e = absurd (false≢true e)
        begins (Requests n) e = absurd (false≢true e)
        begins (First v) e = absurd (false≢true e)
        begins Sched e = absurd (false≢true e)
        begins (Tick x n) e = absurd (false≢true e)
        begins (To x k) e = absurd (false≢true e)
        begins (Open name shape) e = refl
        begins (Send name bytes) e = refl
        begins (Call call) e = refl
        begins (Expire client number) e = refl
        begins (Join client number) e = refl
        begins (Fail name code) e = refl
        begins (Hold name) e = refl
        begins (Drop name) e = refl

seat_same : (a b : List Item) (s : Seat) → filter is_body a ≡ filter is_body b → IsSeat b s → IsSeat a s
seat_same a b (ClientSeat c) e h = (h.0, ap (nat_le c) (clients_same a b e) ∙ h.1)
seat_same a b (ReaderSeat k) e h = (h.0, ap (nat_lt k) (opens_same a b e) ∙ h.1)

turn_stands : (a b : List Item) (i : Item) → is_turn i ≡ true → filter is_body a ≡ filter is_body b → filter is_turn a ≡ filter is_turn b → list_any is_sched a ≡ true → Stands b i → Stands a i
turn_stands a b i turn e t s h =
    record {
      formed = turn_cases (λ i. IsFormed b i → IsFormed a i) (λ seat n h. (seat_same a b seat e h.0, h.1)) (λ seat k h. (seat_same a b seat e h.0, h.1)) i turn h.formed;
      ordered = turn_cases (λ i. is_misplaced a i ≡ false) (λ seat n. ap not s) (λ seat k. ap not s) i turn;
      few = many_same a b i e (ap (λ n. is_turn i && nat_le 4096 n) (turns_same a b t)) ∙ h.few;
      paired = unpaired_same a b (λ n. held_same a b n e) i ∙ h.paired;
    }

pub turns_stand : (is a b : List Item) → Stand b is → filter is_body a ≡ filter is_body (b ++ is) → filter is_turn a ≡ filter is_turn b → list_any is_sched a ≡ true → Stand a (filter is_turn is)
turns_stand [] a b h e t s = tt
turns_stand (i ∷ is) a b h e t s = by_test (is_turn i) (Stand a (filter is_turn (i ∷ is)))
    (λ turn.
    let begun : list_any is_sched b ≡ true = not-false (list_any is_sched b) (not_late b i turn (in_order b i h.0.ordered).late) in
    let rest : filter is_body (i ∷ is) ≡ [] = no_body (i ∷ is) b h begun in
    let now : filter is_body a ≡ filter is_body b = e ∙ filter-append is_body b (i ∷ is) ∙ ap (λ xs. filter is_body b ++ xs) rest ∙ append-nil (filter is_body b) in
    let grown : filter is_body (a ++ i ∷ []) ≡ filter is_body ((b ++ i ∷ []) ++ is) =
    filter-append is_body a (i ∷ []) ∙ ap (λ xs. filter is_body a ++ xs) (cond-false (is_body i) (i ∷ []) [] (turn_cases (λ j. is_body j ≡ false) (λ seat n. refl) (λ seat k. refl) i turn)) ∙ append-nil (filter is_body a) ∙ e ∙ ap (filter is_body) (sym (append_assoc b (i ∷ []) is)) in
    let turns : filter is_turn (a ++ i ∷ []) ≡ filter is_turn (b ++ i ∷ []) = filter-append is_turn a (i ∷ []) ∙ ap (λ xs. xs ++ filter is_turn (i ∷ [])) t ∙ sym (filter-append is_turn b (i ∷ [])) in
    let still : list_any is_sched (a ++ i ∷ []) ≡ true = list_any-append is_sched a (i ∷ []) ∙ or_left (list_any is_sched a) (is_sched i || false) s in
    subst (Stand a) (sym (cond-true (is_turn i) (i ∷ filter is_turn is) (filter is_turn is) turn))
    (turn_stands a b i turn now t s h.0, turns_stand is (a ++ i ∷ []) (b ++ i ∷ []) h.1 grown turns still))
    (λ other.
    let none_more : filter is_turn (b ++ i ∷ []) ≡ filter is_turn b = filter-append is_turn b (i ∷ []) ∙ ap (λ xs. filter is_turn b ++ xs) (cond-false (is_turn i) (i ∷ []) [] other) ∙ append-nil (filter is_turn b) in
    subst (Stand a) (sym (cond-false (is_turn i) (i ∷ filter is_turn is) (filter is_turn is) other))
    (turns_stand is a (b ++ i ∷ []) h.1 (e ∙ ap (filter is_body) (sym (append_assoc b (i ∷ []) is))) (t ∙ sym none_more) s))
  where
    not_late : (b : List Item) (i : Item) → is_turn i ≡ true → (is_turn i && not (list_any is_sched b)) ≡ false → not (list_any is_sched b) ≡ false
    not_late b i turn h = sym (ap (λ t. t && not (list_any is_sched b)) turn) ∙ h

-- ### `sched`

names_few : (is b : List Item) → Stand b is → nat_lt 64 (length (names b)) ≡ false → nat_lt 64 (length (names (b ++ is))) ≡ false
names_few [] b h e = ap (λ xs. nat_lt 64 (length (names xs))) (append-nil b) ∙ e
names_few (i ∷ is) b h e =
    let few = or_parts ((is_client i && nat_le 31 (count_by is_client b)) || (is_open i && nat_le 31 (count_by is_open b)) || (is_operation i && nat_le 4096 (count_by is_operation b)) || (is_turn i && nat_le 4096 (count_by is_turn b))) (nat_lt 64 (length (names (b ++ i ∷ [])))) h.0.few in
    ap (λ xs. nat_lt 64 (length (names xs))) (sym (append_assoc b (i ∷ []) is)) ∙ names_few is (b ++ i ∷ []) h.1 few.1

-- `sched` stands behind the whole body
pub sched_stands : (a s : List Item) → Stand [] s → filter is_body a ≡ filter is_body s → list_any is_sched a ≡ false → Stands a Sched
sched_stands a s h e none =
    let named : names (a ++ Sched ∷ []) ≡ names s = names_more a Sched ∙ names_same a s e in
    record {
      formed = tt;
      ordered = of_order a Sched (record { sized = refl; begun = refl; early = none; late = refl });
      few = ap (λ ns. nat_lt 64 (length ns)) named ∙ names_few s [] h refl;
      paired = refl;
    }
