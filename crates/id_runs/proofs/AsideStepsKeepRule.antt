-- Any step aside of the sockets that a view allows keeps the rule of the ids, and finds what it may find.
use Rattle.std.proofs.Common.{◌≡◌, ◌≢◌, ℕ, ◌+◌, ◌<◌, ◌≤◌, List, [], Some, None, get_or, set, refl, sym, ap, ◌∙◌, subst, arith}
use Rattle.std.specs.Prelude.{Option as Maybe}
use mathlib.Core.Option.{Option, none, some, some-injective, some-ne-none}
use lib.ListN.{get_elem?}
use Rattle.sock_words.specs.declared.plain.Plan.{Plan}
use Rattle.corr_core.specs.IdSlotWord.{parts}
use Rattle.corr_core.specs.IdSlotLaw.{Local, SlotLaw, Stands, vacant, retired, claimed, opened, locked, leaving}
use Rattle.corr_core.specs.declared.marks.Plan.{Plan as IdPlan}
use Rattle.corr_core.specs.declared.marks.Hand.TheVariants.{Full}
use Rattle.corr_core.specs.declared.marks.Token.TheVariants.{Locked}
use Rattle.id_rule.specs.LawfulIdTable.{tag_index, id_index, call_index, at_index, local, Lawful}
use Rattle.id_rule.specs.IdPlays.{Longer, IsHome, value_of}
use Rattle.id_rule.proofs.AllowedIdSteps as allowed
use Rattle.seat_programs.specs.sock_message.specs.Asked.{Asked}
use Rattle.seat_programs.specs.Asides.{Step, Found, ClaimId, PutCall, MakeId, StoreCall, LoadCall, StoreAt, LoadAt, LoadIdWord, LockId, PostId, UnlockId, EndId, FreeId, TakeCall, TakeBytes, Taking, Bytes}
use Rattle.seat_programs.specs.Cores.{Calls}
use Rattle.seat_programs.specs.FoundAndChangedAside.{found_in, calls_after, more_given, call_at}
use Rattle.seat_programs.specs.Explained.{AskedFits}
use Rattle.id_runs.specs.HeldIdTokens.{CallFits, AtFits, StoredFit, IdView, id_state, id_row, HasOne, HasCallAt, MayId}
use Rattle.id_runs.specs.Goes.{HasRoom, IsIdWord, FindsId}
use Rattle.id_runs.proofs.AsidesKeepingIdRule as steps

-- an open or locked id has one attempt of its range before it, and the first version left
pub live_room : (l : Local Asked) → SlotLaw l → 0 < l.word.state → l.word.attempt + 2 ≤ l.word.range
live_room l law some_ = by_stands law.stands
  where
    by_stands : Stands law.b l → l.word.attempt + 2 ≤ l.word.range
    by_stands (vacant none_ tag state first home) = absurd (omega (arith, some_, state))
    by_stands (retired none_ tag state first home) = absurd (omega (arith, some_, state))
    by_stands (claimed seen h tokens tag state first is home) = absurd (omega (arith, some_, state))
    by_stands (opened c none_ state live oldest second home) = live.room
    by_stands (locked c o s h tokens state live begins home holds) = live.room
    by_stands (leaving tokens tag state first home) = absurd (omega (arith, some_, state))

-- a call of no operation, where none is asked for
abbrev pub no_call : Asked
no_call = record { operation = 0; names = []; service = []; method = []; payload = []; attachment = []; range = 0 }

module _ (p : Plan) (q : IdPlan) (a : Calls) (plan : a.plan ≡ q) (us : List IdView) (law : Lawful q (id_state a us)) (k : ℕ) (u : IdView) (at : get_elem? us k ≡ some u) (real : 0 < u.share) where
  abbrev Kept : (step : Step) → Found step → Type 0
  Kept step found = (c : Asked) × Lawful q (id_state (calls_after step found a) (set us k (id_row q step found c u)))

  given : (l : ℕ) (t : Taking) → Lawful q (id_state (more_given l t a) us)
  given l (Bytes bytes) = law
  given l _ = law

  -- the word that was found is the one there
  by_found : (step : Step) (n : Found step) (found : Found step) → some n ≡ some found → Kept step n → Kept step found
  by_found step n found e kept = subst (Kept step) (some-injective n found e) kept

  -- a word of an operation, by the plan that the calls have
  store_kept : (index : IdPlan → ℕ → ℕ) (o w : ℕ) (row : IdView) → Lawful q (id_state (record a { words = set a.words (index q o) w }) (set us k row)) → Lawful q (id_state (record a { words = set a.words (index a.plan o) w }) (set us k row))
  store_kept index o w row kept = subst (λ (r : IdPlan). Lawful q (id_state (record a { words = set a.words (index r o) w }) (set us k row))) (sym plan) kept

  load_kept : (index : IdPlan → ℕ → ℕ) (o : ℕ) → Lawful q (id_state a (set us k (Rattle.id_rule.specs.IdPlays.found_view (index q o) (get_or a.words (index q o) 0) u))) → Lawful q (id_state a (set us k (Rattle.id_rule.specs.IdPlays.found_view (index q o) (get_or a.words (index a.plan o) 0) u)))
  load_kept index o kept = subst (λ (r : IdPlan). Lawful q (id_state a (set us k (Rattle.id_rule.specs.IdPlays.found_view (index q o) (get_or a.words (index r o) 0) u)))) (sym plan) kept

  pub keeps_ids : (step : Step) (t : Option Taking) (found : Found step) → found_in step a t ≡ some found → MayId p q u step → Kept step found
  keeps_ids (ClaimId i) t found e may = by_found (ClaimId i) (get_or a.words (tag_index i) 0) found e (no_call, steps.claims p q a us law k u at real i may)
  keeps_ids (PutCall i asked) t found e may = by_found (PutCall i asked) (get_or a.words (tag_index i) 0) found e (no_call, steps.puts p q a us law k u at real i may.0 asked may.1)
  keeps_ids (MakeId i range) t found e may = by_found (MakeId i range) (get_or a.words (id_index i) 0) found e (no_call, steps.makes_id p q a us law k u at real i may.0 range may.1.0 may.1.1 may.1.2 may.2 may.3)
  keeps_ids (StoreCall o id) t found e may = (no_call, store_kept call_index o id (id_row q (StoreCall o id) found no_call u) (steps.stores p q a us law k u at real (call_index q o) id (let z = may.0 in omega arith) (let z = may.0 in omega arith) may.1))
  keeps_ids (LoadCall o) t found e may = by_found (LoadCall o) (get_or a.words (call_index a.plan o) 0) found e (no_call, load_kept call_index o (steps.finds p q a us law k u at real (call_index q o) (omega (arith, may)) (omega (arith, may))))
  keeps_ids (StoreAt o w) t found e may = (no_call, store_kept at_index o w (id_row q (StoreAt o w) found no_call u) (steps.stores p q a us law k u at real (at_index q o) w (let z = may.0 in omega arith) (let z = may.0 in omega arith) may.1))
  keeps_ids (LoadAt o) t found e may = by_found (LoadAt o) (get_or a.words (at_index a.plan o) 0) found e (no_call, load_kept at_index o (steps.finds p q a us law k u at real (at_index q o) (omega (arith, may)) (omega (arith, may))))
  keeps_ids (LoadIdWord i) t found e may = by_found (LoadIdWord i) (get_or a.words (id_index i) 0) found e (no_call, steps.sees p q a us law k u at real i may)
  keeps_ids (LockId i from) t found e may = by_found (LockId i from) (get_or a.words (id_index i) 0) found e (steps.locks p q a us law k u at real i may.0 from may.1)
  keeps_ids (PostId i from e₁) t found e may = by_found (PostId i from e₁) (get_or a.words (id_index i) 0) found e (steps.posts p q a us law k u at real i may.0 from e₁ may.1 may.2 may.3)
  keeps_ids (UnlockId i from advance) t found e may = let m = may.1 in by_found (UnlockId i from advance) (get_or a.words (id_index i) 0) found e (no_call, steps.unlocks p q a us law k u at real i may.0 m.0 m.1 m.2 m.3 m.4 m.5 m.6 from advance m.7 m.8)
  keeps_ids (EndId i) t found e may = let m = may.1 in by_found (EndId i) (get_or a.words (id_index i) 0) found e (no_call, steps.ends p q a us law k u at real i may.0 m.0 m.1 m.2 m.3 m.4 m.5 m.6)
  keeps_ids (FreeId i) t found e may = by_found (FreeId i) (get_or a.words (tag_index i) 0) found e (no_call, steps.frees p q a us law k u at real i may.0 may.1)
  keeps_ids (TakeCall i) t found e may = (no_call, steps.takes p q a us law k u at real i may.0 found may.1)
  keeps_ids (TakeBytes l room) t found e may = (no_call, subst (λ vs. Lawful q (id_state (more_given l found a) vs)) (sym (Rattle.atomic_table.proofs.Lists.set_again us k u at)) (given l found))

  -- ## What is found

  room_there : (i : ℕ) → i < q.slots → 0 < (parts (get_or a.words (id_index i) 0)).state → HasRoom (get_or a.words (id_index i) 0)
  room_there i inside taken = live_room (local (id_state a us) i) (law.slots i inside) taken

  state_there : (i : ℕ) → i < q.slots → (parts (get_or a.words (id_index i) 0)).state < 3
  state_there i inside = by_stands (law.slots i inside).stands
    where
      by_stands : Stands (law.slots i inside).b (local (id_state a us) i) → (parts (get_or a.words (id_index i) 0)).state < 3
      by_stands (vacant t g s x h) = omega (arith, s)
      by_stands (retired t g s x h) = omega (arith, s)
      by_stands (claimed seen h t g s x y z) = omega (arith, s)
      by_stands (opened c t s l x y h) = omega (arith, s)
      by_stands (locked c x y h t s l z w v) = omega (arith, s)
      by_stands (leaving t g s x h) = omega (arith, s)

  second_there : (i : ℕ) → i < q.slots → 0 < (parts (get_or a.words (id_index i) 0)).state → (parts (get_or a.words (id_index i) 0)).oldest ≡ 0 → (parts (get_or a.words (id_index i) 0)).second ≡ 0
  second_there i inside taken = by_stands (law.slots i inside).stands
    where
      by_stands : Stands (law.slots i inside).b (local (id_state a us) i) → (parts (get_or a.words (id_index i) 0)).oldest ≡ 0 → (parts (get_or a.words (id_index i) 0)).second ≡ 0
      by_stands (vacant t g s x h) = absurd (omega (arith, s, taken))
      by_stands (retired t g s x h) = absurd (omega (arith, s, taken))
      by_stands (claimed seen h t g s x y z) = absurd (omega (arith, s, taken))
      by_stands (opened c t s l x y h) = λ z. y
      by_stands (locked c x y h t s l z w v) = z.2
      by_stands (leaving t g s x h) = absurd (omega (arith, s, taken))

  longer_there : (i : ℕ) → i < q.slots → (f rg att x y : ℕ) (c : Asked) → HasOne i (Locked f rg att c x y (Full c)) u → Longer f rg att (parts (get_or a.words (id_index i) 0)).oldest (parts (get_or a.words (id_index i) 0)).second (parts (get_or a.words (id_index i) 0))
  longer_there i inside f rg att x y c has = let r = allowed.known q k (u, []) i inside real (id_state a us) law at f rg att x y c has in
      record { first_is = r.first_is; state_is = r.locked_is; range_is = r.range_is; attempt_is = r.attempt_is; begins = ((λ z. refl), (λ z. refl), r.begins.2) }

  -- the call at home is that of the lock
  home_there : (i : ℕ) → i < q.slots → (f rg att x y : ℕ) (c : Asked) → HasOne i (Locked f rg att c x y (Full c)) u → get_elem? a.homes i ≡ some (some (Some c))
  home_there i inside f rg att x y c has = (allowed.known q k (u, []) i inside real (id_state a us) law at f rg att x y c has).home

  -- a call is at home where the view says so
  pub call_there : (i : ℕ) → i < q.slots → HasCallAt i u → (c : Asked) × (get_elem? a.homes i ≡ some (some (Some c)))
  call_there i inside may = (may.1, (allowed.takes_law q k (u, []) i inside real (id_state a us) law at may.0 may.2 (subst IsHome (sym may.3) tt)).0 ∙ ap (λ h. some (some (value_of h))) may.3)

  called : (x : Option (Option (Maybe Asked))) (asked : Asked) → call_at x ≡ some asked → x ≡ some (some (Some asked))
  called none asked e = absurd (some-ne-none asked (sym e))
  called (some none) asked e = absurd (some-ne-none asked (sym e))
  called (some (some None)) asked e = absurd (some-ne-none asked (sym e))
  called (some (some (Some b))) asked e = ap (λ z. some (some (Some z))) (some-injective b asked e)

  pub finds_ids : StoredFit q a → ((i : ℕ) (asked : Asked) → get_elem? a.homes i ≡ some (some (Some asked)) → AskedFits p asked) → (step : Step) (t : Option Taking) (found : Found step) → found_in step a t ≡ some found → MayId p q u step → FindsId p q u step found
  finds_ids stored fits (MakeId i range) t found e may = subst (λ n. (1 ≤ (parts n).first) × ((parts n).first ≤ 67108856)) (some-injective (get_or a.words (id_index i) 0) found e) ((law.slots i may.0).first_some, (law.slots i may.0).first_low)
  finds_ids stored fits (LoadCall o) t found e may = subst (λ n. n ≢ 0 → CallFits q n) (some-injective (get_or a.words (call_index a.plan o) 0) found e) (subst (λ (r : IdPlan). get_or a.words (call_index r o) 0 ≢ 0 → CallFits q (get_or a.words (call_index r o) 0)) (sym plan) (stored.0 o may))
  finds_ids stored fits (LoadAt o) t found e may = subst (λ n. n ≢ 0 → AtFits q n) (some-injective (get_or a.words (at_index a.plan o) 0) found e) (subst (λ (r : IdPlan). get_or a.words (at_index r o) 0 ≢ 0 → AtFits q (get_or a.words (at_index r o) 0)) (sym plan) (stored.1 o may))
  finds_ids stored fits (LoadIdWord i) t found e may = subst IsIdWord (some-injective (get_or a.words (id_index i) 0) found e) (room_there i may, state_there i may, second_there i may)
  finds_ids stored fits (LockId i from) t found e may = subst IsIdWord (some-injective (get_or a.words (id_index i) 0) found e) (room_there i may.0, state_there i may.0, second_there i may.0)
  finds_ids stored fits (PostId i from e₁) t found e may = subst IsIdWord (some-injective (get_or a.words (id_index i) 0) found e) (room_there i may.0, state_there i may.0, second_there i may.0)
  finds_ids stored fits (UnlockId i from advance) t found e may = λ f rg att x y c has. subst (λ n. Longer f rg att (parts n).oldest (parts n).second (parts n)) (some-injective (get_or a.words (id_index i) 0) found e) (longer_there i may.0 f rg att x y c has)
  finds_ids stored fits (TakeCall i) t found e may = let there = called (get_elem? a.homes i) found e in (
    fits i found there,
    λ f rg att x y c has.
        let same : some (Some c) ≡ some (Some found) = some-injective (some (Some c)) (some (Some found)) (sym (home_there i may.0 f rg att x y c has) ∙ there) in let z : Some c ≡ Some found = some-injective (Some c) (Some found) same in cc,
  )
  finds_ids stored fits _ t found e may = tt
