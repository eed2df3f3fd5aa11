-- What a seat holds: of each name the reference of its last `hold`, where that was `held` and no `drop` came since. So a `drop` has its outcome by that `hold`'s.
use Rattle.std.proofs.Common.{◌≡◌, ◌≢◌, ℕ, zero, suc, ◌+◌, ◌<◌, ◌≤◌, ◌==◌, ◌&&◌, ◌⊎◌, inl, inr, Bool, true, false, cond, not, eq-eqb, ne_eqb, eqb-true, if◌then◌else◌, List, [], ◌∷◌, ◌++◌, length, get_or, flat_map, Option, Some, None, refl, sym, ap, ◌∙◌, subst, arith}
use Rattle.std.specs.List.{remove, position_or_len}
use Rattle.std.proofs.lemmas.List.Quantifiers.{position-Some}
use Rattle.std.proofs.lemmas.List.Sums.{fails_before_first}
use Rattle.std.proofs.lemmas.Option.{none-some}
use Rattle.std.proofs.lemmas.Bool.Decides.{nat_tests}
use mathlib.Core.Logic.{dite}
use native.Mathlib.Decide.{ℕ_discrete, dec_lt}
use mathlib.Core.Option.{some, some-injective, some-ne-none}
use lib.ListN.{get_elem?}
use Rattle.sock_io.specs.declared.link.Out.{Ghosts}
use Rattle.sock_io.specs.LinkHalves.{OutState}
use Rattle.sock_words.specs.declared.outcome.Outcome.{Outcome}
use Rattle.sock_words.specs.declared.outcome.Outcome.TheVariants as outcome
use Rattle.sock_words.specs.declared.plain.Plan.{Plan}
use Rattle.sock_words.specs.declared.place_word.PlaceWord.{PlaceWord}
use Rattle.sock_words.specs.declared.vref.Vref.{Vref}
use Rattle.sock_model.specs.ViewsOfSplitSeats.{newcomer}
use Rattle.slot_steps.proofs.SlotWeightSums.{total-append}
use Rattle.seat_programs.specs.declared.task.Op.{Op}
use Rattle.seat_programs.specs.declared.task.Op.TheVariants as ops
use Rattle.seat_programs.specs.declared.task.Task.{Task}
use Rattle.brpc_model.specs.Why.{DropCause}
use Rattle.seat_programs.specs.Explained.{IsTask, AfterHold, goes_well, in_hand_behind, alternate}
use Rattle.outcome_ticks.specs.outcome_stories.proofs.Tests.{split_eq, both_left, both_right, none_of}
use Rattle.report_fits.specs.script_facts.proofs.FilteredLists.{all_at, contains_from}
use Rattle.rpc_client.specs.declared.holding.Held.{Held}
use Rattle.rpc_client.specs.HoldAndDropOutcomes.{HeldBy, DroppedBy, place_in}
use Rattle.sock_deeds.specs.Deeds.{Hand, Did, opens, sends, holds, drops, fails, waits, looks, takes, misses, sets, returns, own_number, DoneBy, Deed, Chain}
use Rattle.sock_deeds.specs.SocketTableRun.{IsFor, number_at, numbers_at, listed, numbers_of, Seated, DeedRun}
use Rattle.sock_deeds.proofs.DeedsOfAllSeats.{Act, did_of, done_of, before, after, same_seat}
use Rattle.sock_deeds.proofs.NumberedDeeds.{IsOnSockets, tasks_of}
use Rattle.sock_deeds.proofs.ListPlaces.{to_slice, place_low, place_there}
use Rattle.sock_deeds.proofs.DeedsForTasks.{Does, is_for, act_of, act_does, earlier, rises}
use Rattle.sock_words.specs.Totals.{total}
use Rattle.outcome_ticks.specs.program_walks.proofs.OpenedLivesRecorded.{both_true}

-- ## References by a name

abbrev pub named : ℕ → Held → ℕ
named n x = cond (x.name == n) 1 0

abbrev nothing : Held
nothing = record { name = 0; id = record { 0 = 0 } }

named_same : (n : ℕ) (x : Held) → x.name ≡ n → named n x ≡ 1
named_same n x e = ap (λ (b : Bool). cond b 1 0) (eq-eqb x.name n e)

named_else : (n : ℕ) (x : Held) → x.name ≢ n → named n x ≡ 0
named_else n x ne = ap (λ (b : Bool). cond b 1 0) (ne_eqb x.name n ne)

total_none : (n : ℕ) (h : List Held) → ((k : ℕ) → k < length h → ((get_or h k nothing).name == n) ≡ false) → total (named n) h ≡ 0
total_none n [] none_ = refl
total_none n (x ∷ xs) none_ =
    let a : named n x ≡ 0 = ap (λ (b : Bool). cond b 1 0) (none_ 0 (omega arith)) in
    let b = total_none n xs (λ k l. none_ (suc k) (omega arith)) in omega arith

total_less : (f : Held → ℕ) (h : List Held) (at : ℕ) (x : Held) → get_elem? h at ≡ some x → total f h ≡ total f (remove h at) + f x
total_less f [] at x e = absurd (some-ne-none x (sym e))
total_less f (y ∷ ys) zero x e = let a = ap f (some-injective y x e) in omega arith
total_less f (y ∷ ys) (suc n) x e = let a = total_less f ys n x e in omega arith

get_is : (h : List Held) (at : ℕ) (x : Held) → get_elem? h at ≡ some x → get_or h at nothing ≡ x
get_is [] at x e = absurd (some-ne-none x (sym e))
get_is (y ∷ ys) zero x e = some-injective y x e
get_is (y ∷ ys) (suc n) x e = get_is ys n x e

place_name : (n : ℕ) (h : List Held) (at : ℕ) (x : Held) → place_in n h ≡ Some at → get_elem? h at ≡ some x → x.name ≡ n
place_name n h at x is there = eqb-true x.name n (ap (λ (y : Held). y.name == n) (sym (get_is h at x there)) ∙ (position-Some (λ (y : Held). y.name == n) h at nothing is).1)

place_none : (n : ℕ) (h : List Held) → place_in n h ≡ None → total (named n) h ≡ 0
place_none n h is = dite (dec_lt (position_or_len (λ (y : Held). y.name == n) h) (length h))
    (λ lt. absurd (none-some (position_or_len (λ (y : Held). y.name == n) h) (sym is ∙ grind (arith, nat_tests))))
    (λ ge. total_none n h (λ k l. fails_before_first (λ (y : Held). y.name == n) h k nothing (omega arith)))

-- ## Whether a name is in hand

abbrev pub hand_behind : ℕ → Did → Bool → Bool
hand_behind n (holds m number by) b = if m == n then true else b
hand_behind n (drops m number by) b = if m == n then false else b
hand_behind n other b = b

abbrev pub does_well : ℕ → Did → Bool → Bool
does_well n (holds m number by) b = if m == n then not b else true
does_well n (drops m number by) b = if m == n then b else true
does_well n other b = true

-- a deed that is no operation changes nothing
quiet : (n : ℕ) (d : Did) (b : Bool) → own_number d ≡ None → (does_well n d b ≡ true) × (hand_behind n d b ≡ b)
quiet n (holds name number by) b e = absurd (none-some number (sym e))
quiet n (drops name number by) b e = absurd (none-some number (sym e))
quiet n _ b e = (refl, refl)

-- and one that is an operation changes what its task does
alike : (clients : List (List Task)) (outcomes : List (Option Outcome)) (n number : ℕ) (op : Op) (d : Did) (b : Bool) → Does clients outcomes number op d → (does_well n d b ≡ goes_well n op b) × (hand_behind n d b ≡ in_hand_behind n op b)
alike clients outcomes n number (ops.Send m bytes) d b e = (ap (λ x. does_well n x b) e.2, ap (λ x. hand_behind n x b) e.2)
alike clients outcomes n number (ops.Call asked) d b e = (ap (λ x. does_well n x b) e.2, ap (λ x. hand_behind n x b) e.2)
alike clients outcomes n number (ops.Expire o) d b e = elim e [ ]
alike clients outcomes n number (ops.Join o) d b e = elim e [ ]
alike clients outcomes n number _ d b e = (ap (λ x. does_well n x b) e.1, ap (λ x. hand_behind n x b) e.1)

cons_first : {A : Type 0} {x y : A} {s t : List A} → x ∷ s ≡ y ∷ t → x ≡ y
cons_first e = cc

cons_rest : {A : Type 0} {x y : A} {s t : List A} → x ∷ s ≡ y ∷ t → s ≡ t
cons_rest e = cc

module _ {O : Type 0} {g : Ghosts O} {state : O → OutState} {p : Plan} where
  -- the holds and drops of the name alternate
  abbrev pub deeds_alternate : ℕ → Bool → List (Deed g state p) → Bool
  deeds_alternate n b [] = true
  deeds_alternate n b (d ∷ ds) = does_well n d.did b && deeds_alternate n (hand_behind n d.did b) ds

  -- behind the first k deeds
  abbrev pub hand : ℕ → List (Deed g state p) → ℕ → Bool → Bool
  hand n ds zero b = b
  hand n [] (suc k) b = b
  hand n (d ∷ ds) (suc k) b = hand n ds k (hand_behind n d.did b)

  hand_next : (n : ℕ) (ds : List (Deed g state p)) (k : ℕ) (d : Deed g state p) (b : Bool) → get_elem? ds k ≡ some d → hand n ds (suc k) b ≡ hand_behind n d.did (hand n ds k b)
  hand_next n [] k d b e = absurd (some-ne-none d (sym e))
  hand_next n (x ∷ xs) zero d b e = ap (λ (y : Deed g state p). hand_behind n y.did b) (some-injective x d e)
  hand_next n (x ∷ xs) (suc k) d b e = hand_next n xs k d (hand_behind n x.did b) e

  goes_at : (n : ℕ) (ds : List (Deed g state p)) (k : ℕ) (d : Deed g state p) (b : Bool) → deeds_alternate n b ds ≡ true → get_elem? ds k ≡ some d → does_well n d.did (hand n ds k b) ≡ true
  goes_at n [] k d b alt e = absurd (some-ne-none d (sym e))
  goes_at n (x ∷ xs) zero d b alt e = subst (λ (y : Deed g state p). does_well n y.did b ≡ true) (some-injective x d e) (both_left (does_well n x.did b) (deeds_alternate n (hand_behind n x.did b) xs) alt)
  goes_at n (x ∷ xs) (suc k) d b alt e = goes_at n xs k d (hand_behind n x.did b) (both_right (does_well n x.did b) (deeds_alternate n (hand_behind n x.did b) xs) alt) e

  module _ (clients : List (List Task)) (outcomes : List (Option Outcome)) (n : ℕ) where
    -- a deed with a task's number does what the task asks for
    abbrev Match : List (Deed g state p) → List Task → Type 0
    Match ds ts = (j k : ℕ) (d : Deed g state p) (t : Task) → get_elem? ds j ≡ some d → get_elem? ts k ≡ some t → own_number d.did ≡ Some t.number → Does clients outcomes t.number t.op d.did

    abbrev Aligns : List (Deed g state p) → Type 0
    Aligns ds = (ts : List Task) (b : Bool) → flat_map numbers_of ds ≡ flat_map numbers_at ts → Match ds ts → alternate n b ts ≡ true → deeds_alternate n b ds ≡ true

    -- where the first deed is an operation
    abbrev Finds : Deed g state p → List (Deed g state p) → List Task → Type 0
    Finds d ds us = (b : Bool) (x : ℕ) → own_number d.did ≡ Some x → x ∷ flat_map numbers_of ds ≡ flat_map numbers_at us → Match (d ∷ ds) us → alternate n b us ≡ true → deeds_alternate n b (d ∷ ds) ≡ true

    find_task : (d : Deed g state p) (ds : List (Deed g state p)) → Aligns ds → (us : List Task) → Finds d ds us
    find_task d ds again [] b x own f m alt = absurd (cc)
    find_task d ds again (u ∷ us) b x own f m alt = by_op u.op refl (find_task d ds again us)
      where
        -- a task without a deed
        skip : (op : Op) → u.op ≡ op → number_at u.number op ≡ [] → in_hand_behind n op b ≡ b → Finds d ds us → deeds_alternate n b (d ∷ ds) ≡ true
        skip op is none_ same behind = behind b x own (f ∙ (ap (λ o. number_at u.number o ++ flat_map numbers_at us) is ∙ ap (λ l. l ++ flat_map numbers_at us) none_)) (λ j k y t at there num. m j (suc k) y t at there num)
            (ap (λ c. alternate n c us) (sym (ap (λ o. in_hand_behind n o b) is ∙ same)) ∙ both_right (goes_well n u.op b) (alternate n (in_hand_behind n u.op b) us) alt)

        -- its own task
        here : (op : Op) → u.op ≡ op → number_at u.number op ≡ u.number ∷ [] → deeds_alternate n b (d ∷ ds) ≡ true
        here op is one =
            let e : x ∷ flat_map numbers_of ds ≡ u.number ∷ flat_map numbers_at us = f ∙ (ap (λ o. number_at u.number o ++ flat_map numbers_at us) is ∙ ap (λ l. l ++ flat_map numbers_at us) one) in
            let does = m 0 0 d u refl refl (own ∙ ap Some (cons_first e)) in
            let a = alike clients outcomes n u.number u.op d.did b does in
            both_true (does_well n d.did b) (deeds_alternate n (hand_behind n d.did b) ds) (a.0 ∙ both_left (goes_well n u.op b) (alternate n (in_hand_behind n u.op b) us) alt)
            (again us (hand_behind n d.did b) (cons_rest e) (λ j k y t at there num. m (suc j) (suc k) y t at there num) (ap (λ c. alternate n c us) a.1 ∙ both_right (goes_well n u.op b) (alternate n (in_hand_behind n u.op b) us) alt))

        by_op : (op : Op) → u.op ≡ op → Finds d ds us → deeds_alternate n b (d ∷ ds) ≡ true
        by_op (ops.Expire o) is behind = skip (ops.Expire o) is refl refl behind
        by_op (ops.Join o) is behind = skip (ops.Join o) is refl refl behind
        by_op (ops.Open y k) is behind = here (ops.Open y k) is refl
        by_op (ops.Send y bytes) is behind = here (ops.Send y bytes) is refl
        by_op (ops.Call asked) is behind = here (ops.Call asked) is refl
        by_op (ops.Hold y) is behind = here (ops.Hold y) is refl
        by_op (ops.Drop y) is behind = here (ops.Drop y) is refl
        by_op (ops.Fail y code) is behind = here (ops.Fail y code) is refl

    -- so deeds alternate where the tasks do
    align : (ds : List (Deed g state p)) → Aligns ds
    align [] ts b e m alt = refl
    align (d ∷ ds) ts b e m alt = by_number (own_number d.did) refl (align ds)
      where
        by_number : (o : Option ℕ) → own_number d.did ≡ o → Aligns ds → deeds_alternate n b (d ∷ ds) ≡ true
        by_number None own again =
            let q = quiet n d.did b own in
            both_true (does_well n d.did b) (deeds_alternate n (hand_behind n d.did b) ds) q.0
            (ap (λ c. deeds_alternate n c ds) q.1 ∙ again ts b (ap (λ o. listed o ++ flat_map numbers_of ds) (sym own) ∙ e) (λ j k y t at there num. m (suc j) k y t at there num) alt)
        by_number (Some x) own again = find_task d ds again ts b x own (ap (λ o. listed o ++ flat_map numbers_of ds) (sym own) ∙ e) m alt

  -- ## The last hold

  -- the last `hold` of the name before deed k, and whether its reference is there
  pub record LastHold (ds : List (Deed g state p)) (n k : ℕ) (h : List Held) : Type 0 where
    pub place : ℕ
    pub deed : Deed g state p
    pub at : get_elem? ds place ≡ some deed
    pub before : place < k
    pub number : ℕ
    pub became : Outcome
    pub did_is : deed.did ≡ holds n number became
    pub last : (i : ℕ) (d : Deed g state p) (x : ℕ) (by : Outcome) → place < i → i < k → get_elem? ds i ≡ some d → d.did ≢ holds n x by
    pub held : ((became ≡ outcome.Held) × (total (named n) h ≡ 1)) ⊎ ((became ≢ outcome.Held) × (total (named n) h ≡ 0))

  abbrev pub HeldAt : List (Deed g state p) → ℕ → ℕ → List Held → Bool → Type 0
  HeldAt ds n k h false = total (named n) h ≡ 0
  HeldAt ds n k h true = LastHold ds n k h

  module _ (ds : List (Deed g state p)) (n k : ℕ) (d : Deed g state p) (at : get_elem? ds k ≡ some d) where
    few : (h : List Held) (b : Bool) → HeldAt ds n k h b → total (named n) h ≤ 1
    few h false e = omega arith
    few h true w = elim w.held [ inl a ↦ (let q = a.1 in omega arith) | inr a ↦ (let q = a.1 in omega arith) ]

    -- another deed leaves it as it was
    keep : ((x : ℕ) (by : Outcome) → d.did ≢ holds n x by) → (h h' : List Held) → total (named n) h' ≡ total (named n) h → (b : Bool) → HeldAt ds n k h b → HeldAt ds n (suc k) h' b
    keep ne h h' same false e = same ∙ e
    keep ne h h' same true w = record {
      place = w.place;
      deed = w.deed;
      at = w.at;
      before = (let l = w.before in omega arith);
      number = w.number;
      became = w.became;
      did_is = w.did_is;
      last = λ i y x by lo hi there e. dite (ℕ_discrete i k)
          (λ q. ne x by (ap (λ (z : Deed g state p). z.did) (some-injective d y (sym at ∙ (ap (get_elem? ds) (sym q) ∙ there))) ∙ e))
          (λ far. w.last i y x by lo (omega arith) there e);
      held = elim w.held [ inl a ↦ inl (a.0, same ∙ a.1) | inr a ↦ inr (a.0, same ∙ a.1) ];
    }

    held_else : (m : ℕ) (by : Outcome) (s t : Hand) → HeldBy p m by s.held s.view t.held t.view → m ≢ n → total (named n) t.held ≡ total (named n) s.held
    held_else m outcome.Unopened s t b ne = ap (total (named n)) b.0
    held_else m (outcome.Gone found) s t b ne = ap (total (named n)) b.0
    held_else m outcome.Held s t b ne =
        let x : Held = record { name = m; id = b.0 } in
        omega (arith, ap (total (named n)) b.1, total-append (named n) s.held (x ∷ []), named_else n x ne)
    held_else m other s t b ne = elim b [ ]

    held_here : (m : ℕ) (by : Outcome) (s t : Hand) → HeldBy p m by s.held s.view t.held t.view → m ≡ n → total (named n) s.held ≡ 0 → ((by ≡ outcome.Held) × (total (named n) t.held ≡ 1)) ⊎ ((by ≢ outcome.Held) × (total (named n) t.held ≡ 0))
    held_here m outcome.Unopened s t b e z = inr ((λ q. cc), ap (total (named n)) b.0 ∙ z)
    held_here m (outcome.Gone found) s t b e z = inr ((λ q. cc), ap (total (named n)) b.0 ∙ z)
    held_here m outcome.Held s t b e z =
        let x : Held = record { name = m; id = b.0 } in
        inl (refl, omega (arith, ap (total (named n)) b.1, total-append (named n) s.held (x ∷ []), named_same n x e))
    held_here m other s t b e z = elim b [ ]

    dropped_else : (m : ℕ) (by : Outcome) (s t : Hand) → DroppedBy m by s.held s.view t.held t.view → m ≢ n → total (named n) t.held ≡ total (named n) s.held
    dropped_else m outcome.NotHeld s t b ne = ap (total (named n)) b.1
    dropped_else m outcome.Freed s t b ne = let x = b.2.held in omega (arith, ap (total (named n)) b.2.left, total_less (named n) s.held b.0 x b.2.there, named_else n x (λ q. ne (sym (place_name m s.held b.0 x b.1 b.2.there) ∙ q)))
    dropped_else m outcome.Kept s t b ne = let x = b.2.held in omega (arith, ap (total (named n)) b.2.left, total_less (named n) s.held b.0 x b.2.there, named_else n x (λ q. ne (sym (place_name m s.held b.0 x b.1 b.2.there) ∙ q)))
    dropped_else m other s t b ne = elim b [ ]

    dropped_here : (m : ℕ) (by : Outcome) (s t : Hand) → DroppedBy m by s.held s.view t.held t.view → m ≡ n → total (named n) s.held ≤ 1 → total (named n) t.held ≡ 0
    dropped_here m outcome.NotHeld s t b e le = ap (total (named n)) b.1 ∙ place_none n s.held (subst (λ x. place_in x s.held ≡ None) e b.0)
    dropped_here m outcome.Freed s t b e le = let x = b.2.held in omega (arith, ap (total (named n)) b.2.left, total_less (named n) s.held b.0 x b.2.there, named_same n x (place_name m s.held b.0 x b.1 b.2.there ∙ e))
    dropped_here m outcome.Kept s t b e le = let x = b.2.held in omega (arith, ap (total (named n)) b.2.left, total_less (named n) s.held b.0 x b.2.there, named_same n x (place_name m s.held b.0 x b.1 b.2.there ∙ e))
    dropped_here m other s t b e le = elim b [ ]

    hold_step : (m number : ℕ) (by : Outcome) (s t : Hand) → HeldBy p m by s.held s.view t.held t.view → d.did ≡ holds m number by → (b : Bool) → does_well n (holds m number by) b ≡ true → HeldAt ds n k s.held b → HeldAt ds n (suc k) t.held (hand_behind n (holds m number by) b)
    hold_step m number by s t h is b well was = split_eq m n true b (HeldAt ds n (suc k) t.held)
        (λ e. (
        let none_ = none_of b (subst (λ z. cond z (not b) true ≡ true) (eq-eqb m n e) well) in
        record {
          place = k;
          deed = d;
          at = at;
          before = omega arith;
          number = number;
          became = by;
          did_is = is ∙ ap (λ x. holds x number by) e;
          last = λ i y x o lo hi there q. absurd (omega arith);
          held = held_here m by s t h e (subst (HeldAt ds n k s.held) none_ was);
        }))
        (λ far. keep (λ x o q. far (name_is m n number x by o (sym is ∙ q))) s.held t.held (held_else m by s t h far) b was)
      where
        name_is : (m n x y : ℕ) (a b : Outcome) → holds m x a ≡ holds n y b → m ≡ n
        name_is m n x y a b e = cc

    drop_step : (m number : ℕ) (by : Outcome) (s t : Hand) → DroppedBy m by s.held s.view t.held t.view → d.did ≡ drops m number by → (b : Bool) → HeldAt ds n k s.held b → HeldAt ds n (suc k) t.held (hand_behind n (drops m number by) b)
    drop_step m number by s t h is b was = split_eq m n false b (HeldAt ds n (suc k) t.held)
        (λ e. dropped_here m by s t h e (few s.held b was))
        (λ far. keep (λ x o q. (let e : drops m number by ≡ holds n x o = sym is ∙ q in cc)) s.held t.held (dropped_else m by s t h far) b was)

    same_step : (did : Did) (s t : Hand) → d.did ≡ did → ((x : ℕ) (by : Outcome) → did ≢ holds n x by) → t.held ≡ s.held → (b : Bool) → HeldAt ds n k s.held b → HeldAt ds n (suc k) t.held b
    same_step did s t is ne same b was = keep (λ x by e. ne x by (sym is ∙ e)) s.held t.held (ap (total (named n)) same) b was

    step : (did : Did) (s t : Hand) → DoneBy g state p did s t → d.did ≡ did → (b : Bool) → does_well n did b ≡ true → HeldAt ds n k s.held b → HeldAt ds n (suc k) t.held (hand_behind n did b)
    step (opens name number link by) s t a is b well was = same_step (opens name number link by) s t is (λ x o e. cc) a.1 b was
    step (sends name number attempt msg by) s t a is b well was = same_step (sends name number attempt msg by) s t is (λ x o e. cc) a.1 b was
    step (holds name number by) s t a is b well was = hold_step name number by s t a is b well was
    step (drops name number by) s t a is b well was = drop_step name number by s t a is b was
    step (fails name number code by) s t a is b well was = same_step (fails name number code by) s t is (λ x o e. cc) a.1 b was
    step (waits name) s t a is b well was = same_step (waits name) s t is (λ x o e. cc) a.1 b was
    step (looks number x) s t a is b well was = same_step (looks number x) s t is (λ y o e. cc) a.1 b was
    step (takes id) s t a is b well was = same_step (takes id) s t is (λ x o e. cc) a.2 b was
    step (misses id found) s t a is b well was = same_step (misses id found) s t is (λ x o e. cc) a.1 b was
    step (sets id code by) s t a is b well was = same_step (sets id code by) s t is (λ x o e. cc) a.1 b was
    step (returns id) s t a is b well was = same_step (returns id) s t is (λ x o e. cc) a.1 b was

  -- ## A whole seat

  chain_first : (ds : List (Deed g state p)) (s t : Hand) (d : Deed g state p) → Chain g state p ds s t → get_elem? ds 0 ≡ some d → d.before ≡ s
  chain_first [] s t d c e = absurd (some-ne-none d (sym e))
  chain_first (x ∷ xs) s t d c e = ap (λ (y : Deed g state p). y.before) (sym (some-injective x d e)) ∙ c.0

  chain_next : (ds : List (Deed g state p)) (s t : Hand) (k : ℕ) (d e : Deed g state p) → Chain g state p ds s t → get_elem? ds k ≡ some d → get_elem? ds (suc k) ≡ some e → e.before ≡ d.after
  chain_next [] s t k d e c a b = absurd (some-ne-none d (sym a))
  chain_next (x ∷ xs) s t zero d e c a b = chain_first xs x.after t e c.1 b ∙ ap (λ (y : Deed g state p). y.after) (some-injective x d a)
  chain_next (x ∷ xs) s t (suc k) d e c a b = chain_next xs x.after t k d e c.1 a b

  -- before each deed
  held_before : (ds : List (Deed g state p)) (s t : Hand) → Chain g state p ds s t → s.held ≡ [] → (n : ℕ) → deeds_alternate n false ds ≡ true → (k : ℕ) (d : Deed g state p) → get_elem? ds k ≡ some d → HeldAt ds n k d.before.held (hand n ds k false)
  held_before ds s t c none_ n alt zero d at = ap (λ (h : Hand). total (named n) h.held) (chain_first ds s t d c at) ∙ ap (total (named n)) none_
  held_before ds s t c none_ n alt (suc k) d at =
      let low = place_low ds (suc k) d at in
      let w = place_there ds k (omega arith) in
      let e = w.0 in
      let was = held_before ds s t c none_ n alt k e w.1 in
      let now = step ds n k e w.1 e.did e.before e.after e.done refl (hand n ds k false) (goes_at n ds k e false alt w.1) was in
      subst (λ (h : Hand). HeldAt ds n (suc k) h.held (hand n ds (suc k) false)) (sym (chain_next ds s t k e d c w.1 at)) (subst (HeldAt ds n (suc k) e.after.held) (sym (hand_next n ds k e false w.1)) now)

-- ## What a `drop` says of the last `hold`

module _ {O : Type 0} {g : Ghosts O} {state : O → OutState} {p : Plan} {clients : List (List Task)} {outcomes : List (Option Outcome)} {places : List PlaceWord} {vrefs : List Vref} {outs : List O} (run : DeedRun g state p clients outcomes places vrefs outs) where
  alternates : (a : Act run) (n : ℕ) → deeds_alternate n false a.y.deeds ≡ true
  alternates a n =
      let w = tasks_of run a.c a.y a.at in
      align clients outcomes n a.y.deeds w.0 false (run.numbered a.c a.y w.0 a.at w.1)
      (λ j k d t at there num. (act_does run record { c = a.c; y = a.y; at = a.at; k = j; d = d; is = at } a.c t (w.0, w.1, contains_from w.0 t (k, to_slice w.0 k t there)) num).1)
      (all_at (λ us. alternate n false us ≡ true) clients w.0 (run.tasks.alternating n) (a.c, w.1))

  last_hold : (a : Act run) (n number : ℕ) (by : Outcome) → did_of run a ≡ drops n number by → LastHold a.y.deeds n a.k a.d.before.held
  last_hold a n number by is =
      let alt = alternates a n in
      let was = held_before a.y.deeds record { view = newcomer p [] a.y.spare; held = [] } a.y.ended a.y.chain refl n alt a.k a.d a.is in
      let well = goes_at n a.y.deeds a.k a.d false alt a.is in
      let there : hand n a.y.deeds a.k false ≡ true = subst (λ b. cond b (hand n a.y.deeds a.k false) true ≡ true) (eq-eqb n n refl) (subst (λ (d : Did). does_well n d (hand n a.y.deeds a.k false) ≡ true) is well) in
      subst (HeldAt a.y.deeds n a.k a.d.before.held) there was

  after_hold : (a : Act run) (n number : ℕ) (by : Outcome) → did_of run a ≡ drops n number by → (P : Outcome → Type 0) (w : LastHold a.y.deeds n a.k a.d.before.held) → P w.became → AfterHold clients outcomes a.c number n P
  after_hold a n number by is P w holds_ =
      let b : Act run = record { c = a.c; y = a.y; at = a.at; k = w.place; d = w.deed; is = w.at } in
      let f = subst (IsFor clients outcomes a.c) w.did_is (is_for run b) in
      let mine = ap own_number is in
      let its = ap own_number w.did_is in record {
        hold = record { number = w.number; op = ops.Hold n };
        is = f.0;
        op = refl;
        before = rises run b a w.number number refl w.before its mine;
        last = λ t task lo hi e. no_other b its refl refl mine t task lo hi e;
        outcome = w.became;
        became = f.1;
        holds = holds_;
      }
    where
      no_other : (b : Act run) → own_number (did_of run b) ≡ Some w.number → b.c ≡ a.c → b.k ≡ w.place → own_number (did_of run a) ≡ Some number → (t : Task) → IsTask clients outcomes a.c t → w.number < t.number → t.number < number → t.op ≢ ops.Hold n
      no_other b its client place mine t task lo hi e =
          let v = act_of run a.c t task (subst IsOnSockets (sym e) tt) in
          let d = v.0 in
          let lower = earlier run b d w.number t.number (client ∙ sym v.1) lo its v.2 in
          let upper = earlier run d a t.number number v.1 hi v.2 mine in
          let does = subst (λ (op : Op). Does clients outcomes t.number op (did_of run d)) e (act_does run d a.c t task v.2).1 in
          w.last d.k d.d t.number does.0 (omega arith) upper (ap (λ (y : Seated g state p). get_elem? y.deeds d.k) (sym (same_seat run a d (sym v.1))) ∙ d.is) does.1

  -- the last `hold` of the name by the client of this `drop`, by what the `drop` gave
  abbrev pub WhyDrop : ℕ → ℕ → ℕ → Outcome → Type 0
  WhyDrop c number n by = DropCause (λ P. AfterHold clients outcomes c number n P) by

  not_held : (a : Act run) (n : ℕ) (w : LastHold a.y.deeds n a.k a.d.before.held) → place_in n a.d.before.held ≡ None → w.became ≢ outcome.Held
  not_held a n w none_ e = elim w.held [ inl q ↦ (let one = q.1 in let z = place_none n a.d.before.held none_ in absurd (omega arith)) | inr q ↦ q.0 e ]

  was_held : (a : Act run) (n : ℕ) (w : LastHold a.y.deeds n a.k a.d.before.held) (at : ℕ) (x : Held) → place_in n a.d.before.held ≡ Some at → get_elem? a.d.before.held at ≡ some x → w.became ≡ outcome.Held
  was_held a n w at x is there = elim w.held [ inl q ↦ q.0 | inr q ↦ absurd (let none_ = q.1 in omega (arith, total_less (named n) a.d.before.held at x there, named_same n x (place_name n a.d.before.held at x is there))) ]

  pub drop_cause : (a : Act run) (n number : ℕ) (by : Outcome) → did_of run a ≡ drops n number by → WhyDrop a.c number n by
  drop_cause a n number by is = by_outcome by is (subst (λ (d : Did). DoneBy g state p d a.d.before a.d.after) is (done_of run a)) (last_hold a n number by is)
    where
      by_outcome : (o : Outcome) → did_of run a ≡ drops n number o → DroppedBy n o a.d.before.held (before run a) a.d.after.held (after run a) → LastHold a.y.deeds n a.k a.d.before.held → WhyDrop a.c number n o
      by_outcome outcome.NotHeld is b w = after_hold a n number outcome.NotHeld is (λ x. x ≢ outcome.Held) w (not_held a n w b.0)
      by_outcome outcome.Freed is b w = after_hold a n number outcome.Freed is (λ x. x ≡ outcome.Held) w (was_held a n w b.0 b.2.held b.1 b.2.there)
      by_outcome outcome.Kept is b w = after_hold a n number outcome.Kept is (λ x. x ≡ outcome.Held) w (was_held a n w b.0 b.2.held b.1 b.2.there)
      by_outcome other is b w = elim b [ ]
