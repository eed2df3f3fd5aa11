-- A run begins with the rule of the ids, and each seat is allowed its program; and so does the ending.
use Rattle.std.proofs.Common.{◌≡◌, ℕ, zero, suc, ◌+◌, ◌-◌, ◌*◌, ◌<◌, ◌≤◌, ⊎_elim, List, [], ◌∷◌, ◌++◌, Some, None, length, length-set, length-append, get_or, get_or-append-add, map, set, replicate, refl, sym, ap, ◌∙◌, subst, arith}
use Rattle.std.proofs.lemmas.List.{length-map, length-replicate, get_or-replicate, get_or_append_left, get_or-append_right, get_or_past}
use Rattle.std.specs.Prelude.{Option as Maybe, flat_map, slice_index}
use Rattle.std.specs.List.{AllByRecursion}
use mathlib.Core.Logic.{dite}
use mathlib.Core.Option.{Option, none, some, some-injective, some-ne-none}
use native.Mathlib.Decide.{dec_le}
use lib.ListN.{get_elem?}
use Rattle.atomic_table.proofs.Lists.{at_set}
use Rattle.sock_words.specs.declared.plain.Plan.{Plan}
use Rattle.corr_core.specs.IdSlotWord.{Parts, parts, free_word}
use Rattle.corr_core.specs.IdSlotLaw.{Local, SlotLaw, Each, vacant}
use Rattle.corr_core.specs.declared.marks.Plan.{Plan as IdPlan}
use Rattle.corr_core.specs.declared.marks.Token.{Token}
use Rattle.corr_core.specs.declared.marks.Note.{Note}
use Rattle.corr_core.specs.declared.marks.Kept.{Kept}
use Rattle.id_rule.specs.LawfulIdTable.{Lawful, Unused, KeptFits, kept_in, share_of, tokens_in, notes_in, newcomer, tag_index, id_index, call_index, at_index}
use Rattle.seat_programs.specs.sock_message.specs.Asked.{Asked}
use Rattle.seat_programs.specs.declared.task.Task.{Task}
use Rattle.seat_programs.specs.LoopHeads.{Retry}
use Rattle.seat_programs.specs.Programs.{Program, Rest}
use Rattle.seat_programs.specs.ClientProgram.{ending_of}
use Rattle.seat_programs.specs.Cores.{Core, SeatState, resolved, still_waiting, waiting_at, next_step, with_seat}
use Rattle.seat_programs.specs.ScriptSetupToEnding.{opening_words, opening_homes, opening_ids, opening_calls, sizes_of, programs, readers_from, all_programs, beginning, is_ending}
use Rattle.seat_programs.specs.Explained.{OpFits, TaskFits}
use Rattle.id_runs.specs.HeldIdTokens.{IdView, id_state}
use Rattle.id_runs.specs.Goes.{FitsOwner, IsFree, FitsRetryId, HandFits, HomesFit, CodesFit, IdGoesOn, SoundIds}
use Rattle.id_runs.proofs.ClientsByIdRule.{client_goes, ending_goes}
use Rattle.id_runs.proofs.IdRuleAllowsReading.{reader_goes}
use Rattle.id_runs.proofs.TicksKeepIdRule.{fits_set, resolved_goes, still_fit}
use Rattle.sock_words.specs.Totals.{total}

-- ## The words

length_ids : (n : ℕ) → length (opening_ids n) ≡ 2 * n
length_ids zero = refl
length_ids (suc n) = omega (arith, length_ids n)

-- word c of id slot i
id_at : (n : ℕ) (z : List ℕ) (i c : ℕ) → i < n → c < 2 → get_or (opening_ids n ++ z) (2 * i + c) 0 ≡ get_or (0 ∷ 274877906944 ∷ []) c 0
id_at zero z i c inside small = absurd (omega (arith, inside))
id_at (suc n) z zero c inside small = let e : 2 * 0 + c ≡ c = omega arith in ap (λ x. get_or (0 ∷ 274877906944 ∷ (opening_ids n ++ z)) x 0) e ∙ get_or_append_left (0 ∷ 274877906944 ∷ []) (opening_ids n ++ z) 0 c small
id_at (suc n) z (suc i) c inside small = let e : 2 * suc i + c ≡ 2 + (2 * i + c) = omega arith in
    ap (λ x. get_or (0 ∷ 274877906944 ∷ (opening_ids n ++ z)) x 0) e ∙ (get_or-append-add (0 ∷ 274877906944 ∷ []) (opening_ids n ++ z) (2 * i + c) 0 ∙ id_at n z i c (omega (arith, inside)) small)

zeros : (m x : ℕ) → slice_index (replicate m 0) x ≡ 0
zeros m x = dite (dec_le m x) (λ past. get_or_past (replicate m 0) x 0 (omega (arith, past, length-replicate {A = ℕ} m 0))) (λ inside. get_or-replicate m x 0 0 (omega arith))

module _ (q : IdPlan) where
  abbrev words : List ℕ
  words = opening_ids q.slots ++ replicate (2 * q.operations) 0

  pub unused : Unused q words
  unused = record {
    sized = length-append (opening_ids q.slots) (replicate (2 * q.operations) 0) ∙ omega (arith, length_ids q.slots, length-replicate {A = ℕ} (2 * q.operations) 0);
    tags = λ i inside. let e : 2 * i ≡ 2 * i + 0 = omega arith in ap (λ x. get_or words x 0) e ∙ id_at q.slots (replicate (2 * q.operations) 0) i 0 inside (omega arith);
    ids = λ i inside. ap parts (id_at q.slots (replicate (2 * q.operations) 0) i 1 inside (omega arith));
    rest = λ x past. get_or-append_right (opening_ids q.slots) (replicate (2 * q.operations) 0) (2 * q.slots) x 0 (length_ids q.slots) past ∙ zeros (2 * q.operations) (x - 2 * q.slots);
  }

-- ## The rule

-- an id slot of which nothing is known
module _ {C : Type 0} where
  abbrev fresh : Local C
  fresh = record { tag = 0; word = free_word 1; home = some (some None); tokens = []; notes = [] }

  fresh_law : SlotLaw fresh
  fresh_law = record {
    b = λ g. none;
    first_some = omega arith;
    first_low = omega arith;
    story = record {
      fits = tt;
      births = λ g x e. absurd (some-ne-none x (sym e));
      apart = λ g k x y e u lt. absurd (some-ne-none x (sym e));
      made = λ g. refl;
      ended_past = λ g past. refl;
      ended_not = λ g past. refl;
      attempt_once = λ g n. omega arith;
      one_by_one = λ g n some_. absurd (omega arith);
      unborn = λ g none_. refl;
      ended_at = λ g n m some_ less. refl;
    };
    now = record {
      not_later = omega arith;
      is_born = λ h. absurd (omega (arith, h));
      was_locked = λ e. absurd (omega (arith, e));
      advanced = λ h. absurd (omega (arith, h));
      oldest_by = λ h. absurd (omega (arith, h));
      second_by = λ h. absurd (omega (arith, h));
    };
    stands = vacant refl refl refl (omega arith) refl;
    used = λ h. absurd (omega (arith, h));
  }

  slot_law : (tag : ℕ) (word : Parts) (home : Option (Option (Maybe C))) (tokens : List (Token C)) (notes : List (Note C)) → tag ≡ 0 → word ≡ free_word 1 → home ≡ some (some None) → tokens ≡ [] → notes ≡ []
      → SlotLaw record { tag = tag; word = word; home = home; tokens = tokens; notes = notes }
  slot_law tag word home tokens notes a b c d e = subst SlotLaw (λ j. record { tag = sym a j; word = sym b j; home = sym c j; tokens = sym d j; notes = sym e j }) fresh_law

-- nobody knows anything
no_tokens : (n i : ℕ) → flat_map (tokens_in {C = Asked} i) (replicate n newcomer) ≡ []
no_tokens zero i = refl
no_tokens (suc n) i = no_tokens n i

no_notes : (n i : ℕ) → flat_map (notes_in {C = Asked} i) (replicate n newcomer) ≡ []
no_notes zero i = refl
no_notes (suc n) i = no_notes n i

no_kept : (n : ℕ) → flat_map (kept_in {C = Asked}) (replicate n newcomer) ≡ []
no_kept zero = refl
no_kept (suc n) = no_kept n

all_shares : (n : ℕ) → total (share_of {C = Asked}) (replicate n newcomer) ≡ n
all_shares zero = refl
all_shares (suc n) = omega (arith, all_shares n)

repeated : {A : Type 0} (n i : ℕ) (x y : A) → get_elem? (replicate n x) i ≡ some y → x ≡ y
repeated zero i x y e = absurd (some-ne-none y (sym e))
repeated (suc n) zero x y e = some-injective x y e
repeated (suc n) (suc i) x y e = repeated n i x y e

there : {A : Type 0} (n i : ℕ) (x : A) → i < n → get_elem? (replicate n x) i ≡ some x
there zero i x inside = absurd (omega (arith, inside))
there (suc n) zero x inside = refl
there (suc n) (suc i) x inside = there n i x (omega (arith, inside))

-- the views of so many seats as a run begins
abbrev pub first_views : ℕ → List IdView
first_views n = replicate n newcomer

begins_law : (q : IdPlan) (links : ℕ) → Lawful q (id_state (opening_calls q links) (first_views q.seats))
begins_law q links = let u = unused q in record {
  sized = u.sized;
  slots = λ i inside. slot_law (get_or (words q) (tag_index i) 0) (parts (get_or (words q) (id_index i) 0)) (get_elem? (replicate q.slots (some None)) i) (flat_map (tokens_in i) (first_views q.seats)) (flat_map (notes_in i) (first_views q.seats))
      (u.tags i inside) (u.ids i inside) (there q.slots i (some None) inside) (no_tokens q.seats i) (no_notes q.seats i);
  kept_fits = subst (λ (ks : List Kept). Each (KeptFits (2 * q.slots) (words q) ks) ks) (sym (no_kept q.seats)) tt;
  kept_by = λ x past some_. absurd (some_ (u.rest x past));
  shares = all_shares q.seats;
  bare = λ id v at e. let is : newcomer ≡ v = repeated q.seats id newcomer v at in let share : 1 ≡ v.share = ap share_of is in absurd (omega (arith, share, e));
}

-- ## The programs of the seats

none_wait : (n i : ℕ) → waiting_at (replicate n []) i ≡ []
none_wait zero i = refl
none_wait (suc n) zero = refl
none_wait (suc n) (suc i) = none_wait n i

both : {A : Type 0} (P : A → Type 0) (xs ys : List A) → AllByRecursion P xs → AllByRecursion P ys → AllByRecursion P (xs ++ ys)
both P [] ys a b = b
both P (x ∷ xs) ys a b = (a.0, both P xs ys a.1 b)

ops_fit : (p : Plan) (ts : List Task) → AllByRecursion (TaskFits p) ts → AllByRecursion (λ (t : Task). OpFits p t.op) ts
ops_fit p [] fit = tt
ops_fit p (t ∷ ts) fit = (let one = fit.0 in one.1, ops_fit p ts fit.1)

module _ (p : Plan) (q : IdPlan) (narrow : q.slots ≤ 65536) (same : q.operations ≡ p.operations) where
  -- the programs are allowed from nothing
  abbrev pub AllGo : List Program → Type 0
  AllGo xs = AllByRecursion (IdGoesOn p q newcomer) xs

  clients_go : (clients : List (List Task)) → AllByRecursion (AllByRecursion (TaskFits p)) clients → AllGo (programs (sizes_of p q) clients)
  clients_go [] fit = tt
  clients_go (ts ∷ clients) fit = (client_goes p q narrow same ts (ops_fit p ts fit.0) [] newcomer refl, clients_go clients fit.1)

  rests_go : (n : ℕ) → AllGo (replicate n Rest)
  rests_go zero = tt
  rests_go (suc n) = (refl, rests_go n)

  readers_go : (calls : List ℕ) → AllByRecursion (λ o. o < q.operations) calls → length calls ≡ q.slots → (k : ℕ) (os : List ℕ) → AllGo (readers_from calls k os)
  readers_go calls all slots k [] = tt
  readers_go calls all slots k (o ∷ os) = (reader_goes p q narrow calls all slots k o newcomer refl, readers_go calls all slots (k + 1) os)

  pub all_go : (clients : List (List Task)) (calls opens : List ℕ) → AllByRecursion (AllByRecursion (TaskFits p)) clients → AllByRecursion (λ o. o < q.operations) calls → length calls ≡ q.slots → AllGo (all_programs (programs (sizes_of p q) clients) (readers_from calls 0 opens))
  all_go clients calls opens fit all slots = both (IdGoesOn p q newcomer) (programs (sizes_of p q) clients) (replicate (32 - length (programs (sizes_of p q) clients)) Rest ++ readers_from calls 0 opens) (clients_go clients fit)
      (both (IdGoesOn p q newcomer) (replicate (32 - length (programs (sizes_of p q) clients)) Rest) (readers_from calls 0 opens) (rests_go (32 - length (programs (sizes_of p q) clients))) (readers_go calls all slots 0 opens))

  -- the seat with this program, before its first step
  abbrev at_first : Program → SeatState
  at_first program = record { program = next_step (resolved [] program); hand = [] }

  seat_goes : (xs : List Program) → AllGo xs → (i : ℕ) (seat : SeatState) (u : IdView) → get_elem? (map at_first xs) i ≡ some seat → newcomer ≡ u → IdGoesOn p q u seat.program
  seat_goes [] all i seat u e is = absurd (some-ne-none seat (sym e))
  seat_goes (x ∷ xs) all zero seat u e is = subst (λ (s : SeatState). IdGoesOn p q u s.program) (some-injective (at_first x) seat e) (subst (λ v. IdGoesOn p q v (next_step (resolved [] x))) is (resolved_goes p q narrow same newcomer [] x tt all.0))
  seat_goes (x ∷ xs) all (suc i) seat u e is = seat_goes xs all.1 i seat u e is

  empty_handed : (xs : List Program) (i : ℕ) (seat : SeatState) → get_elem? (map at_first xs) i ≡ some seat → HandFits (FitsOwner q) seat.hand
  empty_handed [] i seat e = absurd (some-ne-none seat (sym e))
  empty_handed (x ∷ xs) zero seat e = subst (λ (s : SeatState). HandFits (FitsOwner q) s.hand) (some-injective (at_first x) seat e) tt
  empty_handed (x ∷ xs) (suc i) seat e = empty_handed xs i seat e

  -- ## A run begins

  pub begins_ids : (xs : List Program) → AllGo xs → length xs ≡ q.seats → CodesFit p (opening_words p) → HomesFit (FitsOwner q) (opening_homes p) → SoundIds p q (beginning p q xs) (first_views q.seats)
  begins_ids xs all many codes owners = let u = unused q in record {
    plan = refl;
    rule = begins_law q p.links;
    each = length-replicate q.seats newcomer ∙ sym (length-map xs at_first ∙ many);
    real = λ i v e. let is : newcomer ≡ v = repeated q.seats i newcomer v e in let share : 1 ≡ v.share = ap share_of is in omega (arith, share);
    homes = λ i asked e. let is : some None ≡ some (Some asked) = repeated q.slots i (some None) (some (Some asked)) e in let z : None ≡ Some asked = some-injective None (Some asked) is in absurd (cc);
    called = λ o inside some_. absurd (some_ (u.rest (call_index q o) (omega arith)));
    placed = λ o inside some_. absurd (some_ (u.rest (at_index q o) (omega arith)));
    owners = owners;
    in_hand = empty_handed xs;
    codes = codes;
    waiting = λ i. subst (AllByRecursion (FitsRetryId q)) (sym (none_wait q.seats i)) tt;
    seats = λ i seat v e f. seat_goes xs all i seat v e (repeated q.seats i newcomer v f);
  }

  -- ## The ending begins

  first_there : {A : Type 0} (l : List A) (a b : A) → get_elem? (set l 0 a) 0 ≡ some b → (x : A) × (get_elem? l 0 ≡ some x)
  first_there [] a b e = absurd (some-ne-none b (sym e))
  first_there (x ∷ xs) a b e = (x, refl)

  -- where seat 0 has nothing left to do it may make the ending
  pub ending_ids : (c : Core) (us : List IdView) (os : List ℕ) → ((seat : SeatState) → get_elem? c.seats 0 ≡ some seat → seat.program ≡ Rest) → SoundIds p q c us → SoundIds p q (with_seat 0 (ending_of os) [] c.words c.homes c) us
  ending_ids c us os idle sound = record {
    plan = sound.plan;
    rule = sound.rule;
    each = sound.each ∙ sym (length-set c.seats 0 seat');
    real = sound.real;
    homes = sound.homes;
    called = sound.called;
    placed = sound.placed;
    owners = sound.owners;
    in_hand = λ j s e. ⊎_elim (λ b. subst (λ (x : SeatState). HandFits (FitsOwner q) x.hand) b.1 tt) (λ b. sound.in_hand j s b.1) (at_set c.seats 0 j seat' s e);
    codes = sound.codes;
    waiting = fits_set (AllByRecursion (FitsRetryId q)) c.calls.waiting 0 (still_waiting waits (ending_of os)) (still_fit p q narrow same newcomer waits (ending_of os) (sound.waiting 0) (ending_goes p q narrow same os newcomer refl)) sound.waiting;
    seats = λ j s v e f. ⊎_elim (λ b. subst (λ (x : SeatState). IdGoesOn p q v x.program) b.1 (new v (subst (λ n. get_elem? (set c.seats 0 seat') n ≡ some s) b.0 e) (subst (λ n. get_elem? us n ≡ some v) b.0 f))) (λ b. sound.seats j s v b.1 f) (at_set c.seats 0 j seat' s e);
  }
    where
      waits : List Retry
      waits = waiting_at c.calls.waiting 0

      seat' : SeatState
      seat' = record { program = next_step (resolved waits (ending_of os)); hand = [] }

      new : (v : IdView) {s : SeatState} → get_elem? (set c.seats 0 seat') 0 ≡ some s → get_elem? us 0 ≡ some v → IdGoesOn p q v seat'.program
      new v {s} e f = let old = first_there c.seats seat' s e in let free : IsFree v = subst (IdGoesOn p q v) (idle old.0 old.1) (sound.seats 0 old.0 v old.1 f) in
          resolved_goes p q narrow same v waits (ending_of os) (sound.waiting 0) (ending_goes p q narrow same os v free)

-- behind the ending the readers are told, which changes nothing else
pub told_ids : (p : Plan) (q : IdPlan) (c : Core) (us : List IdView) → SoundIds p q c us → SoundIds p q (is_ending c) us
told_ids p q c us s = record { plan = s.plan; rule = s.rule; each = s.each; real = s.real; homes = s.homes; called = s.called; placed = s.placed; owners = s.owners; in_hand = s.in_hand; codes = s.codes; waiting = s.waiting; seats = s.seats }
