-- The ids of the calls of a run of a script: one at most was made for each operation, and what became of a call shows its own, where all that is told besides what the clients told of their own are ends of calls.
use Rattle.std.proofs.Common.{◌≡◌, ◌≢◌, ℕ, ◌+◌, ◌*◌, ◌<◌, ◌≤◌, ◌⊎◌, inl, inr, false, true, List, [], ◌∷◌, ◌++◌, Option, Some, None, refl, sym, ap, ◌∙◌, subst, arith}
use Rattle.std.specs.Prelude.{slice_index}
use Rattle.std.specs.List.{AllByRecursion}
use mathlib.Core.Logic.{dite}
use native.Mathlib.Decide.{ℕ_discrete, dec_lt}
use mathlib.Core.Option.{some, some-injective}
use lib.ListN.{get_elem?}
use Rattle.sock_io.specs.declared.link.Out.{Ghosts}
use Rattle.sock_io.specs.LinkHalves.{OutState}
use Rattle.sock_words.specs.declared.outcome.Outcome.{Outcome}
use Rattle.sock_words.specs.declared.outcome.Outcome.TheVariants as outcome
use Rattle.sock_words.specs.declared.outcome.Outcome.TheVariants.{Answered, Peer, CallFailed}
use Rattle.sock_words.specs.declared.plain.Plan.{Plan}
use Rattle.sock_words.specs.declared.place_word.PlaceWord.{PlaceWord}
use Rattle.sock_words.specs.declared.vref.Vref.{Vref}
use Rattle.brpc_model.specs.Items.{Item}
use Rattle.brpc_model.specs.MessageOfLabel.{shown_id}
use Rattle.corr_core.specs.IdSlotWord.{parts}
use Rattle.corr_core.specs.declared.marks.Note.{Note}
use Rattle.corr_core.specs.declared.marks.Note.TheVariants.{Tried, Made, Ended, Locker, Queued, Attempt, Saw}
use Rattle.corr_core.specs.declared.marks.Noted.{Noted}
use Rattle.corr_core.specs.declared.marks.Plan as id_plan
use Rattle.corr_core.specs.declared.marks.View.{View}
use Rattle.corr_core.proofs.NoteSums.{only-at, pair-at, pair-else, pair-else_first, total_some}
use Rattle.corr_id.specs.ClosingIdLists.{Closing}
use Rattle.id_rule.specs.LawfulIdTable.{notes_of}
use Rattle.sock_message.specs.Asked.{Asked}
use Rattle.seat_programs.specs.declared.task.Op.TheVariants as ops
use Rattle.seat_programs.specs.declared.task.Task.{Task}
use Rattle.seat_programs.specs.ScriptSetupToEnding.{all_tasks}
use Rattle.seat_programs.specs.Tasks.{plan_of}
use Rattle.seat_programs.specs.Explained.{AreTasks, TaskFits, OpFits, IsTask, Became}
use Rattle.callless_fits.specs.sock_deeds.specs.script_facts.proofs.FilteredLists.{has_from, contains_from, all_at as all_there}
use Rattle.rpc_client.specs.declared.acting.Told.{Told}
use Rattle.call_run.specs.ReadersOfLinks.{LinkReader}
use Rattle.call_run.specs.Threads.{ids_of, MayRunAll, RanWith}
use Rattle.calls_done.specs.call_whys.specs.call_told.specs.TellersOfCallEnds.{is_end_of_call, IsOwn}
use Rattle.calls_done.specs.call_whys.specs.call_told.specs.Least.{is_made_for, HasBegun as HasBegunHere}
use Rattle.calls_done.specs.call_whys.specs.call_told.specs.ToldOnce.{ends_of, told_ends, ToldOnce}
use Rattle.calls_done.specs.call_whys.specs.call_told.proofs.ListElementsByPlace.{all_at}
use Rattle.calls_done.specs.call_whys.specs.call_told.proofs.IdsMadeBySeats.{AllMade, made_fits}
use Rattle.calls_done.specs.call_whys.specs.call_places.specs.ClientNotesCounted.{makes_for, makes, HaveNotesOf}
use Rattle.calls_done.specs.call_whys.specs.call_places.proofs.ClientPlaces.{tasks_of}
use Rattle.calls_done.specs.call_whys.specs.call_places.proofs.IdsOfRetries.{IsIdOf, some_made, one_id}
use Rattle.calls_done.specs.call_whys.specs.call_places.proofs.CallPlaceOrders.{crew_of, tasks_are as of_clients, made_once}
use Rattle.calls_done.specs.call_whys.specs.call_places.proofs.NoteWeights.{term, two_terms, noted_at}
use Rattle.calls_done.specs.call_whys.specs.call_deeds.proofs.OperationsToldOnce.{task_at}
use Rattle.calls_done.specs.call_whys.proofs.CallVersionsDistinct.{IsIdFor, AreIds, versions}
use Rattle.script_parts.specs.ThreadScriptTold.{outcomes_of}
use Rattle.script_parts.proofs.AskedByScriptClients.{AskFor, all_by_place}
use Rattle.script_parts.proofs.Began.{only_is}
use Rattle.script_parts.proofs.ScriptClientsTold as clients_of
use Rattle.script_parts.proofs.MayCall.{IsOwnTask}
use Rattle.script_parts.proofs.SaidStaysAtNumber.{IsSaid, end_said}
use Rattle.script_parts.proofs.Tellers as tellers_of
use Rattle.script_parts.proofs.Tellers.{IsEndTold, end_made, together}
use Rattle.callless_fits.specs.sock_deeds.proofs.ListPlaces.{to_slice, map_there}
use Rattle.sock_words.specs.PackedWords.{id_slot, id_first}
use Rattle.sock_words.specs.Totals.{total}

-- an id that was made for an operation's call
made_for : (f o : ℕ) (n : Note Asked) → is_made_for f o n ≤ makes_for o n
made_for f o (Made g r c) = dite (ℕ_discrete c.operation o)
    (λ e. dite (ℕ_discrete g f) (λ d. let a = pair-at f o g c.operation d e in let b = only-at o c.operation e in omega arith) (λ n. let a = pair-else_first f o g c.operation n in omega arith))
    (λ n. let a = pair-else f o g c.operation n in omega arith)
made_for f o Tried = omega arith
made_for f o (Ended g y) = omega arith
made_for f o (Locker g c) = omega arith
made_for f o (Queued g e) = omega arith
made_for f o (Attempt g m) = omega arith
made_for f o (Saw w) = omega arith

first_of : Note Asked → ℕ
first_of (Made f r c) = f
first_of other = 0

-- ## Each id

module _ {O : Type 0} {g : Ghosts O} {state : O → OutState} {readers : List (LinkReader g)} {p : Plan} {slots : ℕ} {setup : List Task} {clients : List (List Task)} {opens : List ℕ} {told ended : List (List Told)} {places : List PlaceWord} {vrefs : List Vref} {outs : List O} {ids : List (View Asked)}
    (ran : RanWith g state readers p slots setup clients opens told ended places vrefs outs ids) (script : List Item) (tasks : setup ∷ clients ≡ all_tasks script) (are : AreTasks p (setup ∷ clients)) (may : MayRunAll p (ids_of p slots) setup clients)
    -- by notes that have those of the clients
    (notes : List (Noted Asked)) (have : HaveNotesOf ids notes) where
  open crew_of ran use {q, every as all, crew as callers}

  -- two ends that are told of one operation have one id
  same_id : (x u : Told) (a : IsEndTold slots notes x) (b : IsEndTold slots notes u) → u.number ≡ x.number → (b.slot ≡ a.slot) × (b.first ≡ a.first)
  unfolding first_of
  same_id x u a b same =
      let m = noted_at a.slot notes a.place (Made a.first a.range a.asked) a.made in
      let n = noted_at b.slot notes b.place (Made b.first b.range b.asked) b.made in
      dite (ℕ_discrete n.0 m.0)
      (λ e. let one = some-injective _ _ (sym n.1 ∙ (ap (get_elem? notes) e ∙ m.1)) in (ap (λ (y : Noted Asked). y.slot) one, ap (λ (y : Noted Asked). first_of y.note) one))
      (λ ne. absurd (let c = two_terms (makes x.number) notes n.0 m.0 _ _ n.1 m.1 ne in let d = only-at x.number a.asked.operation a.operation in let e = only-at x.number b.asked.operation (b.operation ∙ same) in let f = made_once ran are may notes have x.number in omega arith))

  -- over all that tell of ends of calls, none of which is told twice
  module _ (tellers : List (List Told)) (last : List Told) (end_told : (d j : ℕ) (ts : List Told) (x : Told) → get_elem? (tellers ++ last ∷ []) d ≡ some ts → get_elem? ts j ≡ some x → IsEndTold slots notes x) where
    open together script told tellers last use {many, outcomes, every}

    abbrev ends : List (List Told)
    ends = tellers ++ last ∷ []

    module _ (told_once : ToldOnce slots (tellers ++ last ∷ [])) where
      -- two that are told of one operation are one
      one_end : (d j e k : ℕ) (ts us : List Told) (x u : Told) → get_elem? ends d ≡ some ts → get_elem? ts j ≡ some x → get_elem? ends e ≡ some us → get_elem? us k ≡ some u → (a : IsEndTold slots notes x) → a.first < 4294967296 → u.number ≡ x.number → u ≡ x
      one_end d j e k ts us x u td xj te uk a low same = dite (ℕ_discrete e d)
          (λ q. (let one : us ≡ ts = some-injective us ts (sym te ∙ (ap (get_elem? ends) q ∙ td)) in
          let there : get_elem? ts k ≡ some u = ap (λ (l : List Told). get_elem? l k) (sym one) ∙ uk in
          dite (ℕ_discrete k j)
          (λ r. some-injective u x (sym there ∙ (ap (get_elem? ts) r ∙ xj)))
          (λ ne. absurd (let two = two_terms (λ (y : Told). ends_of id y.outcome) ts k j u x there xj ne in let t = term (told_ends id) ends d ts td in omega (arith, two, t, few, its, also)))))
          (λ ne. absurd (let two = two_terms (told_ends id) ends e d us ts te td ne in
          let s = term (λ (y : Told). ends_of id y.outcome) ts j x xj in let t = term (λ (y : Told). ends_of id y.outcome) us k u uk in omega (arith, two, s, t, few, its, also)))
        where
          id : ℕ
          id = a.slot * 4294967296 + a.first

          b : IsEndTold slots notes u
          b = end_told e k us u te uk

          few : total (told_ends id) ends ≤ 1
          few = told_once id (let i = a.inside in omega arith)

          its : ends_of id x.outcome ≡ 1
          its = a.is_end

          also : ends_of id u.outcome ≡ 1
          also = let i = same_id x u a b same in subst (λ n. ends_of n u.outcome ≡ 1) ((λ z. i.0 z * 4294967296 + i.1 z)) b.is_end

      -- what is told of a call that ended is what became of it
      pub end_became : (c i : ℕ) (ts : List Told) (t : Told) → get_elem? ends c ≡ some ts → get_elem? ts i ≡ some t → (a : IsEndTold slots notes t) → a.first < 4294967296 → Became all outcomes t.number t.outcome
      end_became c i ts t at there a low =
          let b = tellers_of.begun_of ran script tasks are notes have t.number (end_made slots notes t a) in
          let less = subst (λ n. n < many) b.has.number_is (tellers_of.low_number ran script tasks are b.place b.has.result.task (tellers_of.of_client ran script tasks are b.place b.client b.at t.number None b.has)) in
          let h = end_said many told tellers last t.number less record { teller = c; place = i; told = ts; one = t; by = at; at = there; number = refl } in
          by h.0 h.1
        where
          by : (o : Outcome) → Became all outcomes t.number o → Became all outcomes t.number t.outcome
          by o e = let w = tellers_of.told_of ran script tasks are notes have tellers last end_told t.number o e in elim w.3 [
            | inl own ↦ absurd (tellers_of.apart ran script tasks are notes have own.0 own.1 own.2 w.0 own.3 own.4 (subst (λ n. 0 < total (makes n) notes) (sym w.1) (end_made slots notes t a)))
            | inr over ↦ (let same = one_end c i over.0 over.1 ts over.2 t w.0 at there over.3 over.4 a low w.1 in e ∙ ap Some (ap Some (sym w.2 ∙ ap (λ (y : Told). y.outcome) same)))
          ]

    -- a call that began isn't unopened
    pub begun_not : (o id k : ℕ) (v : View Asked) → get_elem? ids k ≡ some v → HasBegunHere q o id v → Became all outcomes o outcome.Unopened → ⊥
    begun_not o id k v at begun un =
        let slot = id_slot id in let f = id_first id in
        let w = tellers_of.unopened ran script tasks are notes have tellers last end_told o un in
        let here = have.all slot (is_made_for f o) in
        let one = term (λ (y : View Asked). total (is_made_for f o) (notes_of slot y.notes)) ids k v at in
        let n = total_some (is_made_for f o) (notes_of slot notes) (let s = begun.made in omega arith) in
        let place = noted_at slot notes n.0 n.1 n.2 in
        let a = term (makes o) notes place.0 _ place.1 in let b = made_for f o n.1 in let d = n.3 in
        tellers_of.apart ran script tasks are notes have w.0 w.1 w.2 w.3 w.4 w.5 (subst (λ m. 0 < total (makes m) notes) (sym w.6) (omega (arith, a, b, d)))

-- ## The ids that are shown

-- an outcome is the end of one call
one_shown : (a b : ℕ) (by : Outcome) → 0 < ends_of a by → 0 < ends_of b by → a ≡ b
one_shown a b (Answered i payload attachment) h k = sym (only_is a i h) ∙ only_is b i k
one_shown a b (Peer i code) h k = sym (only_is a i h) ∙ only_is b i k
one_shown a b (CallFailed i code) h k = sym (only_is a i h) ∙ only_is b i k
one_shown a b other h k = absurd (omega arith)

own_none : (id : ℕ) (by : Outcome) → is_end_of_call by ≡ false → ends_of id by ≡ 0
own_none id (Answered i payload attachment) e = let k : true ≡ false = e in absurd (cc)
own_none id (Peer i code) e = let k : true ≡ false = e in absurd (cc)
own_none id (CallFailed i code) e = let k : true ≡ false = e in absurd (cc)
own_none id _ e = refl

-- the end of a call shows its id
shown_of : (by : Outcome) (id : ℕ) → 0 < ends_of id by → shown_id by ≡ Some id
shown_of (Answered i payload attachment) id h = ap Some (only_is id i h)
shown_of (Peer i code) id h = ap Some (only_is id i h)
shown_of (CallFailed i code) id h = ap Some (only_is id i h)
shown_of other id h = absurd (omega arith)

-- it is that of a call of one of these clients, with as many versions as that asks for
abbrev pub IsOfCall : List (List Task) → ℕ → Asked → Type 0
IsOfCall clients range asked = (c : ℕ) × IsTask clients [] c record { number = asked.operation; op = ops.Call asked } × (range ≡ asked.range)

pub all_of_calls : (clients : List (List Task)) → AllByRecursion (AllByRecursion IsOwnTask) clients → AllByRecursion (AskFor (IsOfCall clients)) clients
all_of_calls clients owns = all_by_place (AskFor (IsOfCall clients)) clients (λ c ts at asked a. (
    let t : Task = record { number = a.number; op = ops.Call asked } in
    let there = to_slice ts a.place t a.there in
    let own : asked.operation ≡ a.number = all_there IsOwnTask ts t (all_there (AllByRecursion IsOwnTask) clients ts owns (c, at)) (a.place, there) in
    (c, subst (λ n. IsTask clients [] c record { number = n; op = ops.Call asked }) (sym own) (ts, at, contains_from ts t (a.place, there)), refl)))

module _ {O : Type 0} {g : Ghosts O} {state : O → OutState} {readers : List (LinkReader g)} {p : Plan} {slots : ℕ} {setup : List Task} {clients : List (List Task)} {opens : List ℕ} {told ended : List (List Told)} {places : List PlaceWord} {vrefs : List Vref} {outs : List O} {ids : List (View Asked)}
    (ran : RanWith g state readers p slots setup clients opens told ended places vrefs outs ids) (script : List Item) (tasks : setup ∷ clients ≡ all_tasks script) (are : AreTasks p (setup ∷ clients)) (may : MayRunAll p (ids_of p slots) setup clients)
    -- by the closed table of ids, over notes that have those of the clients, and in which each id was made for a call of theirs
    (v : View Asked) (words : List ℕ) (closing : Closing (ids_of p slots) v.notes v.kept words) (low : (i : ℕ) → slice_index words i < 18446744073709551616) (have : HaveNotesOf ids v.notes) (made : AllMade (IsOfCall (setup ∷ clients)) v.notes)
    (tellers : List (List Told)) (last : List Told) (end_told : (d j : ℕ) (ts : List Told) (x : Told) → get_elem? (tellers ++ last ∷ []) d ≡ some ts → get_elem? ts j ≡ some x → IsEndTold slots v.notes x) where
  abbrev table : id_plan.Plan
  table = ids_of p slots

  abbrev asked_for : List (List Task)
  asked_for = setup ∷ clients

  abbrev as_many : ℕ
  as_many = (plan_of script).operations

  abbrev became_all : List (Option Outcome)
  became_all = outcomes_of as_many told tellers last

  abbrev Its : ℕ → ℕ → Type 0
  Its operation id = IsIdFor table v.notes v.kept words closing operation id

  -- what is told as the end of a call is told of the operation for which its id was made
  its_id : (x : Told) → IsEndTold slots v.notes x → (id : ℕ) → 0 < ends_of id x.outcome → Its x.number id
  its_id x e id some_ = record {
    slot = e.slot;
    first = e.first;
    inside = e.inside;
    id_is = one_shown id (e.slot * 4294967296 + e.first) x.outcome some_ (let a = e.is_end in omega arith);
    made = record { range = e.range; asked = e.asked; place = e.place; made = e.made; operation_is = e.operation };
    ended = e.noted;
  }

  pub told_own : (d j : ℕ) (ts : List Told) (x : Told) → get_elem? told d ≡ some ts → get_elem? ts j ≡ some x → IsOwn x
  told_own d j ts x at there = all_at IsOwn ts j x (all_at (λ (us : List Told). AllByRecursion IsOwn us) told d ts (clients_of.owns state p table setup clients opens told ended ran.seats ids ran.ran) at) there

  ends_are : (o : ℕ) (by : Outcome) → Became asked_for became_all o by → (id : ℕ) → 0 < ends_of id by → Its o id
  ends_are o by became id some_ = let w = tellers_of.told_of ran script tasks are v.notes have tellers last end_told o by became in
      let shows : 0 < ends_of id w.0.outcome = subst (λ (y : Outcome). 0 < ends_of id y) (sym w.2) some_ in elim w.3 [
        | inl own ↦ absurd (let a = own_none id w.0.outcome (told_own own.0 own.1 own.2 w.0 own.3 own.4) in omega arith)
        | inr over ↦ subst (λ (n : ℕ). Its n id) w.1 (its_id w.0 over.5 id shows)
      ]

  one_task : (c d : ℕ) (t u : Task) → IsTask asked_for became_all c t → IsTask asked_for became_all d u → t.number ≡ u.number → t ≡ u
  one_task c d t u a b e = let same = tellers_of.same_task ran script tasks are c d t u a b e in λ i. record { number = e i; op = same.1 i }

  -- how many versions a call may have
  fits : (c : ℕ) (t : Task) (asked : Asked) → IsTask asked_for became_all c t → t.op ≡ ops.Call asked → OpFits p (ops.Call asked)
  fits c t asked is op = subst (OpFits p) op (all_there (TaskFits p) is.0 t (all_there (AllByRecursion (TaskFits p)) asked_for is.0 are.fit (c, is.1)) (has_from is.0 t is.2)).1

  pub two : (c : ℕ) (t : Task) (asked : Asked) → IsTask asked_for became_all c t → t.op ≡ ops.Call asked → 2 ≤ asked.range
  two c t asked is op = (fits c t asked is op).range_low

  pub are_ids : AreIds table v.notes v.kept words closing asked_for became_all
  are_ids = record { ends = ends_are; made = λ i j f r asked inside at. made_fits (IsOfCall asked_for) i v.notes made j f r asked at; one = one_task; short = λ c t asked is op. (fits c t asked is op).range_high }

  -- no two calls have a version in common
  pub calls_apart : (c d : ℕ) (t u : Task) (a b : Asked) (x y : Outcome) (i j : ℕ) → IsTask asked_for became_all c t → IsTask asked_for became_all d u → t.op ≡ ops.Call a → u.op ≡ ops.Call b → Became asked_for became_all t.number x → Became asked_for became_all u.number y
      → shown_id x ≡ Some i → shown_id y ≡ Some j → t.number ≢ u.number → (i + a.range ≤ j) ⊎ (j + b.range ≤ i)
  calls_apart = versions table v.notes v.kept words closing (λ i inside. low i) asked_for became_all are_ids

  -- ## Where each call is told

  module _ (called : (c k : ℕ) (ts : List Task) (t : Task) (asked : Asked) → get_elem? (setup ∷ clients) c ≡ some ts → get_elem? ts k ≡ some t → t.op ≡ ops.Call asked → IsSaid (outcomes_of (plan_of script).operations told tellers last) t.number) where
    -- a call for which an id was made
    is_told : (o id : ℕ) → IsIdOf slots v.notes o id → (by : Outcome) × Became asked_for became_all o by
    is_told o id h =
        let b = tellers_of.begun_of ran script tasks are v.notes have o (some_made o id h) in
        let own : get_elem? asked_for b.place ≡ some (tasks_of b.client) = ap (λ (l : List (List Task)). get_elem? l b.place) (sym (of_clients ran)) ∙ map_there tasks_of (crew_of ran).crew b.place b.client b.at in
        subst (λ (n : ℕ). (by : Outcome) × Became asked_for became_all n by) b.has.number_is
        (called b.place b.has.place (tasks_of b.client) b.has.result.task b.asked own (task_at b.client.thread b.client.is b.has.place b.has.result b.has.at) b.op)

    -- and what became of it shows that id
    pub shown : (o id : ℕ) → IsIdOf slots v.notes o id → (by : Outcome) × Became asked_for became_all o by × (shown_id by ≡ Some id)
    shown o id h =
        let s = is_told o id h in
        let e = tellers_of.became_end ran script tasks are v.notes have tellers last end_told o s.0 (some_made o id h) s.1 in
        (s.0, s.1, shown_of s.0 id (by_end s.0 e.0 e.1 e.2 e.3))
      where
        by_end : (by : Outcome) (x : Told) (e : IsEndTold slots v.notes x) → x.number ≡ o → x.outcome ≡ by → 0 < ends_of id by
        by_end by x e number outcome_is =
            let its : IsIdOf slots v.notes o (e.slot * 4294967296 + e.first) = record {
              slot = e.slot;
              first = e.first;
              inside = e.inside;
              low = dite (dec_lt e.first (parts (slice_index words e.slot)).first)
                  (λ lt. (let w = low e.slot in omega arith))
                  (λ ge. absurd (let none_ = closing.ended_not e.slot e.first e.inside (omega arith) in let some_ = e.noted in omega arith));
              id_is = refl;
              range = e.range;
              asked = e.asked;
              place = e.place;
              made = e.made;
              operation = e.operation ∙ number;
            } in
            let same : id ≡ e.slot * 4294967296 + e.first = one_id slots v.notes o id (e.slot * 4294967296 + e.first) (made_once ran are may v.notes have o) h its in
            let a = ap (λ (y : ℕ). ends_of y by) same in let b = ap (ends_of (e.slot * 4294967296 + e.first)) outcome_is in let c = e.is_end in omega arith
