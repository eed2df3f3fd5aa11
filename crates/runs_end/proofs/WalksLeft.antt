-- What a step leaves of walks, of lists of accepted messages, and of messages at home.
use Rattle.std.proofs.Common.{◌≡◌, ◌≢◌, ℕ, zero, suc, ◌+◌, ◌-◌, ◌*◌, ◌%◌, ◌<◌, ◌≤◌, ◌==◌, ◌&&◌, Bool, true, false, not, List, [], ◌∷◌, ◌++◌, length, take, length-append, set, refl, sym, ap, ◌∙◌, subst, arith, cond, eqb, eq-eqb, ne_eqb}
use Rattle.std.proofs.lemmas.Bool.{true≢false}
use Rattle.std.specs.List.{filter, flat_map}
use mathlib.Core.Logic.{dite}
use mathlib.Core.Option.{Option, some, none}
use native.Mathlib.Decide.{ℕ_discrete}
use Rattle.sock_words.specs.declared.plain.Plan.{Plan}
use Rattle.sock_words.specs.PackedWords.{socket_id_slot, vref_version, ticket_generation, UNCONNECTED}
use Rattle.seat_programs.specs.sock_io.specs.declared.link.Put.{Put}
use Rattle.seat_programs.specs.sock_io.specs.declared.link.Put.TheVariants.{Took, Again, Failed}
use Rattle.sock_model.specs.declared.chain.Entry.{Entry}
use Rattle.sock_model.specs.declared.chain.Heading.{Heading}
use Rattle.sock_model.specs.declared.chain.Right.{Right}
use Rattle.sock_model.specs.declared.chain.Stage.{Stage}
use Rattle.sock_model.specs.declared.chain.Stage.TheVariants.{Writes, Placed, Passes, Empties, Reversing, ReversesNext}
use Rattle.sock_model.specs.declared.home.Home.{Home}
use Rattle.sock_model.specs.declared.home.Home.TheVariants.{Message}
use Rattle.sock_model.specs.declared.view.View.{View}
use Rattle.sock_model.specs.declared.view.Hand.{Hand}
use Rattle.sock_model.specs.Entries.{on}
use Rattle.sock_model.specs.MarkWeights.{only}
use Rattle.sock_model.specs.SlotRows.{looked}
use Rattle.sock_model.specs.ChainRows.{with_right, without_right, more, turned_right, placed_right, dropped_right, taken_right, put_right}
use Rattle.sock_model.specs.ChainLawReads.{rights_on}
use Rattle.sock_steps.specs.slot_steps.proofs.RuleNumbers.{only-at, only-else}
use Rattle.sock_steps.specs.chain_steps.proofs.TicketLists.{on_hit, on_miss}
use Rattle.sock_steps.proofs.SumsAsMarksChange.{either_way}
use Rattle.seat_programs.specs.TableSteps.{TableStep, OnSlot, OnChain, OnPlace, OnLink, OnMessage, TakeLink, PutLink, LookWord, PutMessage, SwapHead, EmptyHead, ReadNext, ReverseNext, FreeRequest, StorePlace, DropPlace}
use Rattle.seat_programs.specs.Programs.{LAST_GENERATION}
use Rattle.seat_programs.specs.Cores.{first_of, link_place, homes_after}
use Rattle.seat_programs.specs.StepTables.{row}
use Rattle.seat_programs.specs.StepViews.{by_right, settled_stage, settled}
use Rattle.seat_programs.specs.StepsOfChain.{emptied, freed_stage, read_next, turned_next, freed_next}
use Rattle.seat_programs.specs.StepsOfMessages.{took_message}
use Rattle.seat_programs.specs.StepsOfSlots.{looked_clean}
use Rattle.seat_programs.specs.StepsOfPlaces.{placed_next, dropped_next}
use Rattle.seat_programs.specs.StepsOfLinks.{link_away, link_home_again, took_bytes}
use Rattle.seat_programs.specs.StepTables.{May}
use Rattle.sock_runs.specs.program_steps.specs.SoundSeats.{AreInHand, IsOfRight, AreHeld}
use Rattle.sock_runs.specs.program_steps.specs.TicksLeftAtMost.{weight, home_weight, is_turning, walk_left}
use Rattle.sock_runs.specs.program_steps.proofs.Leaves.{is_exchange, moves_right, right_way, rights_stay}
use Rattle.sock_words.specs.Totals.{total}

-- ## Rights that change

module _ (f : Right → ℕ) where
  filter_few : (g : Right → Bool) (rs : List Right) → total f (filter g rs) ≤ total f rs
  filter_few g [] = omega arith
  filter_few g (r ∷ rs) = by_test (filter_few g rs) (g r)
    where
      by_test : total f (filter g rs) ≤ total f rs → (b : Bool) → total f (cond b (r ∷ filter g rs) (filter g rs)) ≤ f r + total f rs
      by_test ih true = omega (arith, ih)
      by_test ih false = omega (arith, ih)

  -- the first right is another, which has so much less
  changed_few : (r s : Right) (rs : List Right) (d : ℕ) → s.link ≡ r.link → f s + d ≤ f r → total f (s ∷ filter (λ (x : Right). not (eqb x.link s.link)) (r ∷ rs)) + d ≤ total f (r ∷ rs)
  changed_few r s rs d same less =
      omega (arith, less, filter_few (λ (x : Right). not (eqb x.link s.link)) rs, ap (λ b. total f (cond (not b) (r ∷ filter (λ (x : Right). not (eqb x.link s.link)) rs) (filter (λ (x : Right). not (eqb x.link s.link)) rs))) (eq-eqb r.link s.link (sym same)))

  -- of views with these rights
  pub with_right_few : (u : View) (r s : Right) (rs : List Right) (d : ℕ) → u.rights ≡ r ∷ rs → s.link ≡ r.link → f s + d ≤ f r → total f (with_right u s).rights + d ≤ total f (r ∷ rs)
  with_right_few u r s rs d is same less = subst (λ l. total f (s ∷ filter (λ (x : Right). not (eqb x.link s.link)) l) + d ≤ total f (r ∷ rs)) (sym is) (changed_few r s rs d same less)

  -- what is done by the first right
  pub by_right_few : (rs : List Right) (then_ : Right → View) (u : View) → u.rights ≡ rs → ((r : Right) (others : List Right) → rs ≡ r ∷ others → total f (then_ r).rights ≤ total f (r ∷ others)) → total f (by_right rs then_ u).rights ≤ total f rs
  by_right_few [] then_ u is each = omega (arith, ap (total f) is)
  by_right_few (r ∷ others) then_ u is each = each r others refl

-- ## What is left of walks

module _ (counts : ℕ → ℕ) where
  abbrev left : Right → ℕ
  left = walk_left counts

  not_turning : (last : ℕ) (b : Stage) → is_turning (settled_stage last b) ≡ is_turning b
  not_turning last (Placed now) = either_way ((now == last) && (ticket_generation now == LAST_GENERATION)) Empties (Placed now) (λ (z : Stage). is_turning z ≡ 0) refl refl
  not_turning last (Passes now next) = either_way (ticket_generation now == LAST_GENERATION) (Writes next) (Passes now next) (λ (z : Stage). is_turning z ≡ 0) refl refl
  not_turning last _ = refl

  turned_few : (r : Right) (top at before : ℕ) → (left (turned_right r top at before) ≡ 2 * (counts r.link - (r.noted + suc r.turned))) × ((turned_right r top at before).link ≡ r.link)
  turned_few r top at before = either_way (eqb before r.last) (record r { last = top; stage = Writes at; turned = 0; noted = r.noted + suc r.turned }) (record r { stage = Reversing top before at; turned = suc r.turned })
      (λ (z : Right). (left z ≡ 2 * (counts r.link - (r.noted + suc r.turned))) × (z.link ≡ r.link)) (omega arith, refl) (omega arith, refl)

  module _ (v : View) (r : Right) (rs : List Right) (one : v.rights ≡ r ∷ rs) where
    abbrev Few : View → Type 0
    Few w = total left w.rights ≤ total left (r ∷ rs)

    same_few : Few v
    same_few = omega (arith, ap (total left) one)

    with_few : (s : Right) → s.link ≡ r.link → left s ≤ left r → Few (with_right v s)
    with_few s same less = let z = with_right_few left v r s rs 0 one same (omega (arith, less)) in omega (arith, z)

    reads_few : (found : ℕ) (b : Stage) → r.stage ≡ b → Few (read_next found v r b)
    reads_few found (Placed now) is = let b : Stage = settled_stage r.last (Passes now found) in
        with_few (record r { stage = b }) refl (omega (arith, not_turning r.last (Passes now found), ap is_turning is))
    reads_few found (Reversing top at after) is = either_way (eqb found UNCONNECTED) v (with_right v (record r { stage = ReversesNext top at after found })) Few same_few
        (with_few (record r { stage = ReversesNext top at after found }) refl (omega (arith, ap is_turning is)))
    reads_few found _ is = same_few

    turns_few : (b : Stage) → r.stage ≡ b → Few (turned_next v r b)
    turns_few (ReversesNext top at after before) is = let z = turned_few r top at before in with_few (turned_right r top at before) z.1 (omega (arith, z.0, ap is_turning is))
    turns_few _ is = same_few

    frees_few : (b : Stage) → r.stage ≡ b → Few (with_right v (record r { stage = freed_stage b }))
    frees_few (Placed now) is = with_few (record r { stage = Empties }) refl (omega (arith, ap is_turning is))
    frees_few (Passes now next) is = with_few (record r { stage = Writes next }) refl (omega (arith, ap is_turning is))
    frees_few b is = with_few (record r { stage = b }) refl (omega (arith, ap is_turning is))

    places_few : (b : Stage) → r.stage ≡ b → Few (placed_next v r b)
    places_few (Writes now) is = with_few (settled (placed_right r now)) refl (omega (arith, not_turning r.last (Placed now), ap is_turning is))
    places_few _ is = same_few

    drops_few : (sent : List ℕ) (b : Stage) → r.stage ≡ b → (now : ℕ) → b ≡ Writes now → Few (with_right v (settled (dropped_right r now sent)))
    drops_few sent b is now e = with_few (settled (dropped_right r now sent)) refl (omega (arith, not_turning r.last (Placed now), ap is_turning is, ap is_turning e))

    drops_next_few : (b : Stage) → r.stage ≡ b → Few (dropped_next v r b)
    drops_next_few (Writes now) is = drops_few (r.sent ++ take r.put r.bytes) (Writes now) is now refl
    drops_next_few _ is = same_few

    empties_few : (last found : ℕ) → is_turning r.stage ≡ 0 → Few (emptied last found v r)
    empties_few last found none_ = either_way (eqb found last) (without_right v r.link) (with_right v (record r { stage = Reversing found found 0 })) Few
        (omega (arith, ap (total left) one, filter_few left (λ (x : Right). not (eqb x.link r.link)) v.rights))
        (with_few (record r { stage = Reversing found found 0 }) refl (omega (arith, none_)))

  module _ (p : Plan) (v : View) (found : ℕ) (hand : Hand) where
    abbrev Few_left : View → Type 0
    Few_left w = total left w.rights ≤ total left v.rights

    stays_few : (call : TableStep) → moves_right call ≡ false → Few_left (row p call found hand v)
    stays_few call other = omega (arith, ap (total left) (rights_stay p v found hand call other))

    looks_few : (i : ℕ) → Few_left (by_right v.rights (looked_clean i found v) (looked i found v))
    looks_few i = by_right_few left v.rights (looked_clean i found v) (looked i found v) refl
        (λ r others is. either_way (eqb (vref_version found % 2) 0) (with_right (looked i found v) (record r { clean = true })) (looked i found v) (λ (w : View). total left w.rights ≤ total left (r ∷ others))
        (let z = with_right_few left (looked i found v) r (record r { clean = true }) others 0 is refl (omega arith) in omega (arith, z)) (omega (arith, ap (total left) is)))

    -- no step but the exchange leaves more of the seat's walks
    pub rights_few : (call : TableStep) → May p v call → is_exchange call ≡ false → Few_left (row p call found hand v)
    rights_few (OnSlot (LookWord id)) may other = looks_few (socket_id_slot id)
    rights_few (OnChain (SwapHead i own)) may other = absurd (true≢false other)
    rights_few (OnChain (EmptyHead i last)) may other = let x = may.1.0 in let r : Right = x.mine.right in
        subst (λ (l : List Right). total left (by_right l (emptied last found v) v).rights ≤ total left l) (sym may.1.1) (empties_few v r [] may.1.1 last found (ap is_turning x.stage))
    rights_few (OnChain (ReadNext q)) may other = by_right_few left v.rights (λ r. read_next found v r r.stage) v refl (λ r others is. reads_few v r others is found r.stage refl)
    rights_few (OnChain (ReverseNext q value)) may other = by_right_few left v.rights (λ r. turned_next v r r.stage) v refl (λ r others is. turns_few v r others is r.stage refl)
    rights_few (OnChain (FreeRequest q g)) may other = by_right_few left v.rights (freed_next v) v refl (λ r others is. frees_few v r others is r.stage refl)
    rights_few (OnPlace (StorePlace l k n)) may other = by_right_few left v.rights (λ r. placed_next v r r.stage) v refl (λ r others is. places_few v r others is r.stage refl)
    rights_few (OnPlace (DropPlace l k n)) may other = by_right_few left v.rights (λ r. dropped_next v r r.stage) v refl (λ r others is. drops_next_few v r others is r.stage refl)
    rights_few call may other = stays_few call refl

    -- a walk that found the next word of its entry has a step less left, and one that turned it too
    pub read_less : (q : ℕ) (r : Right) (top at after : ℕ) → v.rights ≡ r ∷ [] → r.stage ≡ Reversing top at after → found ≢ UNCONNECTED → r.noted + r.turned < counts r.link → total left (row p (OnChain (ReadNext q)) found hand v).rights < total left v.rights
    read_less q r top at after one stage some_ less = let s : Right = record r { stage = ReversesNext top at after found } in
        subst (λ (l : List Right). total left (by_right l (λ r. read_next found v r r.stage) v).rights < total left l) (sym one)
        (subst (λ (b : Stage). total left (read_next found v r b).rights < total left (r ∷ [])) (sym stage)
        (subst (λ (b : Bool). total left (cond b v (with_right v s)).rights < total left (r ∷ [])) (sym (ne_eqb found UNCONNECTED some_))
        (let z = with_right_few left v r s [] 1 one refl (omega (arith, less, ap is_turning stage)) in omega (arith, z))))

    pub turn_less : (q value : ℕ) (r : Right) (top at after before : ℕ) → v.rights ≡ r ∷ [] → r.stage ≡ ReversesNext top at after before → r.noted + r.turned < counts r.link → total left (row p (OnChain (ReverseNext q value)) found hand v).rights < total left v.rights
    turn_less q value r top at after before one stage less = let t = turned_few r top at before in
        subst (λ (l : List Right). total left (by_right l (λ r. turned_next v r r.stage) v).rights < total left l) (sym one)
        (subst (λ (b : Stage). total left (turned_next v r b).rights < total left (r ∷ [])) (sym stage)
        (let z = with_right_few left v r (turned_right r top at before) [] 1 one t.1 (omega (arith, less, t.0, ap is_turning stage)) in omega (arith, z)))

  -- nor does a move or a put
  module _ (v : View) where
    moved_few : (then_ : Right → Right) → ((r : Right) → (then_ r).link ≡ r.link) → ((r : Right) → left (then_ r) ≤ left r) → total left (by_right v.rights (λ r. with_right v (then_ r)) v).rights ≤ total left v.rights
    moved_few then_ same less = by_right_few left v.rights (λ r. with_right v (then_ r)) v refl (λ r others is. with_few v r others is (then_ r) (same r) (less r))

    pub message_few : (heading : Heading) (bytes : List ℕ) → total left (took_message heading bytes v).rights ≤ total left v.rights
    message_few heading bytes = moved_few (λ r. taken_right r heading bytes) (λ r. refl) (λ r. omega arith)

    pub away_few : total left (link_away v).rights ≤ total left v.rights
    away_few = moved_few (λ r. record r { at_home = false }) (λ r. refl) (λ r. omega arith)

    pub home_few : total left (link_home_again v).rights ≤ total left v.rights
    home_few = moved_few (λ r. record r { at_home = true }) (λ r. refl) (λ r. omega arith)

    pub put_few : (answer : Put) → total left (took_bytes answer v).rights ≤ total left v.rights
    put_few (Took n) = moved_few (λ r. put_right r n) (λ r. refl) (λ r. omega arith)
    put_few Again = omega arith
    put_few Failed = omega arith

-- they leave the lists too
module _ (v : View) where
  moved_lists : (then_ : Right → Right) → (by_right v.rights (λ r. with_right v (then_ r)) v).lists ≡ v.lists
  moved_lists then_ = right_way (λ (w : View). w.lists ≡ v.lists) v.rights (λ r. with_right v (then_ r)) v refl (λ r. refl)

  pub message_lists : (heading : Heading) (bytes : List ℕ) → (took_message heading bytes v).lists ≡ v.lists
  message_lists heading bytes = moved_lists (λ r. taken_right r heading bytes)

  pub away_lists : (link_away v).lists ≡ v.lists
  away_lists = moved_lists (λ r. record r { at_home = false })

  pub home_lists : (link_home_again v).lists ≡ v.lists
  home_lists = moved_lists (λ r. record r { at_home = true })

  pub put_lists : (answer : Put) → (took_bytes answer v).lists ≡ v.lists
  put_lists (Took n) = moved_lists (λ r. put_right r n)
  put_lists Again = refl
  put_lists Failed = refl

-- ## One message more

-- an entry more in an own list
entry_more : (k : ℕ) (e : Entry) (l : List Entry) → length (on k (l ++ e ∷ [])) ≡ length (on k l) + only e.link k
entry_more k e l = dite (ℕ_discrete e.link k)
    (λ same. omega (arith, ap (λ (x : List Entry). length x) (on_hit k l e same), length-append (on k l) (e ∷ []), only-at e.link k (sym same)))
    (λ ne. omega (arith, ap (λ (x : List Entry). length x) (on_miss k l e ne), only-else e.link k (λ q. ne (sym q))))

-- how many entries of link k stand in these lists
pub lists_more : (k : ℕ) (e : Entry) (made : List Entry) (others : List (List Entry)) → total (λ (l : List Entry). length (on k l)) (more (made ∷ others) e) ≡ total (λ (l : List Entry). length (on k l)) (made ∷ others) + only e.link k
lists_more k e made others = omega (arith, entry_more k e made)

-- a walk of the link has two steps more left
walk_more : (counts after : ℕ → ℕ) (k : ℕ) → ((j : ℕ) → after j ≡ counts j + only k j) → (r : Right) → walk_left after r ≤ walk_left counts r + 2 * only k r.link
walk_more counts after k is r = omega (arith, is r.link)

walks_more : (counts after : ℕ → ℕ) (k : ℕ) → ((j : ℕ) → after j ≡ counts j + only k j) → (rs : List Right) → total (walk_left after) rs ≤ total (walk_left counts) rs + 2 * total (λ (r : Right). only k r.link) rs
walks_more counts after k is [] = omega arith
walks_more counts after k is (r ∷ rs) = omega (arith, walk_more counts after k is r, walks_more counts after k is rs)

pub all_more : (counts after : ℕ → ℕ) (k : ℕ) → ((j : ℕ) → after j ≡ counts j + only k j) → (vs : List View)
    → total (λ (v : View). total (walk_left after) v.rights) vs ≤ total (λ (v : View). total (walk_left counts) v.rights) vs + 2 * total (λ (v : View). total (λ (r : Right). only k r.link) v.rights) vs
all_more counts after k is [] = omega arith
all_more counts after k is (v ∷ vs) = omega (arith, walks_more counts after k is v.rights, all_more counts after k is vs)

-- how many rights to write a link there are
rights_count : (k : ℕ) (rs : List Right) → total (λ (r : Right). only k r.link) rs ≡ length (filter (λ (x : Right). eqb x.link k) rs)
rights_count k [] = refl
rights_count k (r ∷ rs) = dite (ℕ_discrete r.link k)
    (λ same. omega (arith, only-at k r.link same, rights_count k rs, ap (λ b. length (cond b (r ∷ filter (λ (x : Right). eqb x.link k) rs) (filter (λ (x : Right). eqb x.link k) rs))) (eq-eqb r.link k same)))
    (λ ne. omega (arith, only-else k r.link ne, rights_count k rs, ap (λ b. length (cond b (r ∷ filter (λ (x : Right). eqb x.link k) rs) (filter (λ (x : Right). eqb x.link k) rs))) (ne_eqb r.link k ne)))

pub all_rights : (k : ℕ) (vs : List View) → total (λ (v : View). total (λ (r : Right). only k r.link) v.rights) vs ≡ length (flat_map (rights_on k) vs)
all_rights k [] = refl
all_rights k (v ∷ vs) = omega (arith, rights_count k v.rights, all_rights k vs, length-append (rights_on k v) (flat_map (rights_on k) vs))

-- ## Messages at home

pub set_few : {A : Type 0} (f : A → ℕ) (l : List A) (i : ℕ) (a : A) → total f (set l i a) ≤ total f l + f a
set_few f [] i a = omega arith
set_few f (x ∷ xs) zero a = omega arith
set_few f (x ∷ xs) (suc i) a = omega (arith, set_few f xs i a)

-- a link in hand is no message
in_hand_light : (xs : List Home) (hs : List Hand) → AreInHand xs hs → home_weight (first_of xs) ≡ 0
in_hand_light [] hs are = refl
in_hand_light (x ∷ xs) [] are = absurd are
in_hand_light (x ∷ xs) (h ∷ hs) are = let a = are.0 in ap (λ (y : Home). home_weight (some y)) a.1

pub held_light : (xs : List Home) (rs : List Right) (hs : List Hand) → AreHeld xs rs hs → home_weight (first_of xs) ≡ 0
held_light xs [] hs are = in_hand_light xs hs are
held_light xs (r ∷ rs) hs are = by_home (held_light xs rs hs) r.at_home are
  where
    by_home : (AreHeld xs rs hs → home_weight (first_of xs) ≡ 0) → (b : Bool)
        → elim b as (λ b. Type 0) [ true ↦ AreHeld xs rs hs | false ↦ (x : Home) × (others : List Home) × (xs ≡ x ∷ others) × IsOfRight r x × AreHeld others rs hs ] → home_weight (first_of xs) ≡ 0
    by_home ih true are = ih are
    by_home ih false are = ap (λ (l : List Home). home_weight (first_of l)) are.2 ∙ ap (λ (y : Home). home_weight (some y)) are.3.1

-- what a step brings home
abbrev pub home_cost : TableStep → ℕ
home_cost (OnMessage (PutMessage q heading bytes)) = weight (length bytes)
home_cost other = 0

pub homes_few : (p : Plan) (call : TableStep) (hand : List Home) (hs : List (Option Home)) → home_weight (first_of hand) ≡ 0 → total home_weight (homes_after p call hand hs) ≤ total home_weight hs + home_cost call
homes_few p (OnLink (TakeLink k)) hand hs light = let z = set_few home_weight hs (link_place p k) none in omega (arith, z)
homes_few p (OnLink (PutLink k)) hand hs light = let z = set_few home_weight hs (link_place p k) (first_of hand) in omega (arith, z, light)
homes_few p (OnMessage (PutMessage q heading bytes)) hand hs light = let z = set_few home_weight hs q (some (Message heading bytes)) in omega (arith, z)
homes_few p _ hand hs light = omega arith
