-- Where a call advanced, and no client ended it, a retry of its last attempt went out again.
use Rattle.std.proofs.Common.{◌≡◌, ℕ, ◌+◌, ◌*◌, ◌<◌, ◌≤◌, ◌⊎◌, inl, inr, List, sym, ap, ◌∙◌, subst, arith}
use mathlib.Core.Logic.{dite}
use mathlib.Core.Option.{some}
use native.Mathlib.Decide.{ℕ_discrete, dec_lt}
use lib.ListN.{get_elem?}
use Rattle.sock_io.specs.declared.link.Out.{Ghosts}
use Rattle.sock_io.specs.LinkHalves.{OutState}
use Rattle.sock_words.specs.declared.plain.Plan.{Plan}
use Rattle.sock_words.specs.declared.place_word.PlaceWord.{PlaceWord}
use Rattle.sock_words.specs.declared.vref.Vref.{Vref}
use Rattle.seat_programs.specs.declared.task.Task.{Task}
use Rattle.corr_core.specs.IdSlotWord.{Parts, parts}
use Rattle.corr_core.specs.IdSlotLaw.{is_attempt, is_advance, is_ended}
use Rattle.corr_core.specs.declared.marks.Note.{Note}
use Rattle.corr_core.specs.declared.marks.Note.TheVariants.{Made, Attempt}
use Rattle.corr_core.specs.declared.marks.Noted.{Noted}
use Rattle.corr_core.specs.declared.marks.Plan as id_plan
use Rattle.corr_core.specs.declared.marks.View.{View}
use Rattle.corr_core.proofs.NoteSums.{only-at, pair-at, pair-else, pair-else_first, total_some}
use Rattle.id_rule.specs.LawfulIdTable.{notes_of}
use Rattle.sock_message.specs.Asked.{Asked}
use Rattle.corr_id.specs.declared.calls.IdLock.{IdLock}
use Rattle.corr_id.specs.SeatBehindIdCalls.{Found, FoundUpTo, OutOf, is_saw}
use Rattle.call_whys.specs.Below.RpcClient.Told.{Told}
use Rattle.call_whys.specs.Below.CallErrors.Retry.{Retry}
use Rattle.call_whys.specs.Below.CallAttempts.ClientAtBothTables.{Both}
use Rattle.call_whys.specs.Below.CallAttempts.WaitingRetries.{Locked, Overtaken, WentAgain, had_ended, overtaken, went_again}
use Rattle.call_whys.specs.Below.CallRun.ReadersOfLinks.{LinkReader}
use Rattle.call_whys.specs.Below.CallRun.Threads.{RanWith, ids_of}
use Rattle.call_whys.specs.call_told.proofs.ListElementsByPlace.{all_at}
use Rattle.call_whys.specs.call_places.specs.ClientNotesCounted.{HaveNotesOf}
use Rattle.call_whys.specs.call_places.specs.DeedsOfCallClient.{Deed, operates, retries}
use Rattle.call_whys.specs.call_places.proofs.NoteWeights.{each_less}
use Rattle.call_whys.specs.call_places.proofs.Still.{is_retry, advances, decided_still}
use Rattle.call_whys.specs.call_places.proofs.RetryAndIdCounts.{by_retry, Grows}
use Rattle.call_whys.specs.call_places.proofs.IdsOfRetries.{IdLaws, id_parts}
use Rattle.call_whys.specs.call_places.proofs.ClientPlaces.{Client, view_of, deeds_of}
use Rattle.call_whys.specs.call_places.proofs.CallPlaceOrders.{all, noted_among, views_are}
use Rattle.call_whys.specs.call_places.specs.sock_deeds.proofs.ListPlaces.{map_back}
use Rattle.attempts_told.proofs.RetriedAdvances.{Moves, decided_moves, Founded, taken_out, all_founded}
use Rattle.sock_words.specs.PackedWords.{id_slot, id_first}
use Rattle.sock_words.specs.Totals.{total}

-- a retry that counts as one of this attempt of the call with this id
retry_is : (id n : ℕ) (r : Retry) → 0 < is_retry id n r → (r.id ≡ id) × (r.attempt ≡ n)
retry_is id n r some_ = dite (ℕ_discrete r.id id)
    (λ e. dite (ℕ_discrete r.attempt n) (λ m. (e, m)) (λ ne. absurd (let z = pair-else id n r.id r.attempt ne in omega (arith, z, some_))))
    (λ ne. absurd (let z = pair-else_first id n r.id r.attempt ne in omega (arith, z, some_)))

-- an advance to an attempt is one
attempt_advance : (f n : ℕ) (x : Note Asked) → is_attempt f n x ≤ is_advance f x
attempt_advance f n (Attempt g m) = dite (ℕ_discrete g f)
    (λ e. dite (ℕ_discrete m n)
    (λ y. let a = pair-at f n g m e y in let b = only-at f g e in omega (arith, a, b))
    (λ ne. let a = pair-else f n g m ne in omega (arith, a)))
    (λ ne. let a = pair-else_first f n g m ne in omega (arith, a))
attempt_advance f n _ = omega arith

attempts_few : (f n : ℕ) (ns : List (Note Asked)) → total (is_attempt f n) ns ≤ total (is_advance f) ns
attempts_few f n ns = each_less (is_attempt f n) (is_advance f) ns (λ i x at. attempt_advance f n x)

-- ## The run

module _ {O : Type 0} {g : Ghosts O} {state : O → OutState} {readers : List (LinkReader g)} {p : Plan} {slots : ℕ} {setup : List Task} {clients : List (List Task)} {opens : List ℕ} {told ended : List (List Told)} {places : List PlaceWord} {vrefs : List Vref} {outs : List O} {ids : List (View Asked)}
    (run : RanWith g state readers p slots setup clients opens told ended places vrefs outs ids) (notes : List (Noted Asked)) (laws : IdLaws slots notes) (have : HaveNotesOf ids notes)
    -- none but they advanced attempts
    (own : (i f n : ℕ) → total (is_attempt f n) (notes_of i notes) ≤ total (λ (v : View Asked). advances i f n v) ids) where
  abbrev q : id_plan.Plan
  q = ids_of p slots

  -- a client took out a retry of attempt n of the call with this id, and its attempt went to its name
  pub record WentFor (id n : ℕ) : Type 0 where
    pub place : ℕ
    pub client : Client g state p q
    pub in_crew : get_elem? (all run) place ≡ some client
    pub index : ℕ
    pub retry : Retry
    pub before : Both
    pub after : Both
    pub lock : IdLock Asked
    pub inside : Both
    pub locked : Locked state p q retry lock before inside
    pub again : WentAgain state p q retry lock inside after
    pub there : get_elem? (deeds_of client) index ≡ some (retries retry before after (went_again lock inside locked again))
    pub id_is : retry.id ≡ id
    pub attempt_is : retry.attempt ≡ n

  -- the range with this first version in slot i, which was made, and advanced to n and no further
  module _ (i f n r k : ℕ) (asked : Asked) (inside : i < slots) (low : f < 4294967296) (made : get_elem? (notes_of i notes) k ≡ some (Made f r asked)) (furthest : (m : ℕ) → 0 < total (is_attempt f m) (notes_of i notes) → m ≤ n)
      -- no client ended it, or found a later one
      (never : (j : ℕ) (c : Client g state p q) → get_elem? (all run) j ≡ some c → total (is_ended f) (notes_of i (view_of c).notes) ≡ 0)
      (latest : (j : ℕ) (c : Client g state p q) → get_elem? (all run) j ≡ some c → FoundUpTo i f (view_of c)) where
    abbrev id : ℕ
    id = i * 4294967296 + f

    module _ (j : ℕ) (c : Client g state p q) (at : get_elem? (all run) j ≡ some c) where
      -- a lock by a version of the range is one of the range
      same_first : (word : Retry) (l : IdLock Asked) (s u : Both) → Locked state p q word l s u → Grows u.calls.view (view_of c) → l.slot ≡ i → id_first word.id ≡ f → (parts l.word.0).first ≡ f
      same_first word l s u locked grows slot version =
          let got = locked.got in
          let h : ℕ = (parts got.word).first in let w : ℕ = (parts got.word).range in
          let first_is : (parts l.word.0).first ≡ h = ap (λ (x : Parts). x.first) got.got.word_is in
          let range_is : (parts l.word.0).range ≡ w = ap (λ (x : Parts). x.range) got.got.word_is in
          let found : 0 < total (is_saw got.word) (notes_of i notes) = subst (λ (y : ℕ). 0 < total (is_saw got.word) (notes_of y notes)) slot
          (let a = got.got.found in let b = grows l.slot (is_saw got.word) in let d = noted_among run notes have j c at l.slot (is_saw got.word) in omega (arith, a, b, d)) in
          let one = laws.range_is i got.word inside found (let a = got.got.was_open in omega (arith, a)) in
          let from = got.from_first in let to = got.to_last in
          dite (dec_lt h f)
          (λ lt. absurd (let a = laws.ranges_apart i h f w r one.1 k one.0 asked inside one.2 made lt in omega (arith, a, to, first_is, range_is, version)))
          (λ ge. omega (arith, ge, from, first_is, version))

      -- the word that was found without the id is a later one
      not_gone : (x : Retry) (s t : Both) (found : ℕ) → id_slot x.id ≡ i → id_first x.id ≡ f → ((slots ≤ id_slot x.id) × (found ≡ 0)) ⊎ (Found (id_slot x.id) found t.calls.view × OutOf (parts found) (id_first x.id)) → Grows t.calls.view (view_of c) → id_first x.id < (parts found).first → ⊥
      not_gone x s t found slot version (inl none_) grows later = let a = none_.0 in omega (arith, a, slot, inside)
      not_gone x s t found slot version (inr seen) grows later =
          let here : 0 < total (is_saw found) (notes_of i (view_of c).notes) = subst (λ (y : ℕ). 0 < total (is_saw found) (notes_of y (view_of c).notes)) slot
          (let a = seen.0 in let b = grows (id_slot x.id) (is_saw found) in omega (arith, a, b)) in
          let a = latest j c at found here in omega (arith, a, later, version)

      -- another error that was handled would have ended the call, or advanced it further
      not_overtaken : (x : Retry) (l : IdLock Asked) (s u t : Both) → Locked state p q x l s u → Overtaken state p q x l u t → x.attempt ≡ n → id_slot x.id ≡ i → id_first x.id ≡ f → Grows t.calls.view (view_of c) → 0 < advances (id_slot x.id) (id_first x.id) x.attempt s.calls.view → ⊥
      not_overtaken x l s u t locked o attempt slot version grows noted = by (decided_moves o.decided)
        where
          through : Grows u.calls.view t.calls.view
          through y h = let a = o.unlocked.3.grows y h in let b = (decided_still o.decided).grows y h in omega (arith, a, b)

          first_is : (parts l.word.0).first ≡ f
          first_is = same_first x l s u locked (λ y h. (let a = through y h in let b = grows y h in omega (arith, a, b))) (locked.got.slot_is ∙ slot) version

          next_slot : o.next.slot ≡ i
          next_slot = o.unlocked.0 ∙ (locked.got.slot_is ∙ slot)

          next_first : (parts o.next.word.0).first ≡ f
          next_first = let m = o.unlocked.4.1 in ap (λ (w : Parts). w.first) m.left.1 ∙ (m.same_id ∙ first_is)

          -- the lock has no lower attempt than that to which the id had advanced
          reached : x.attempt ≤ (parts l.word.0).attempt
          reached = locked.got.got.reached x.attempt (
              let here : 0 < total (is_attempt (parts l.word.0).first x.attempt) (notes_of l.slot s.calls.view.notes) =
              subst (λ (y : ℕ). 0 < total (is_attempt y x.attempt) (notes_of l.slot s.calls.view.notes)) (sym (first_is ∙ sym version)) (subst (λ (y : ℕ). 0 < total (is_attempt (id_first x.id) x.attempt) (notes_of y s.calls.view.notes)) (sym locked.got.slot_is) noted) in
              let a = locked.got.got.did.grows l.slot (is_attempt (parts l.word.0).first x.attempt) in omega (arith, here, a))

          next_attempt : n ≤ (parts o.next.word.0).attempt
          next_attempt = let a = reached in let b = o.unlocked.4.1.attempt_is in omega (arith, a, b, attempt)

          by : Moves o.next t.calls.view → ⊥
          by (inl ended_) =
              let here : 0 < total (is_ended f) (notes_of i t.calls.view.notes) = subst (λ (y : ℕ). 0 < total (is_ended y) (notes_of i t.calls.view.notes)) next_first (subst (λ (y : ℕ). 0 < total (is_ended (parts o.next.word.0).first) (notes_of y t.calls.view.notes)) next_slot ended_) in
              let a = grows i (is_ended f) in let b = never j c at in omega (arith, here, a, b)
          by (inr advanced) =
              let m : ℕ = (parts o.next.word.0).attempt + 1 in
              let here : 0 < total (is_attempt f m) (notes_of i t.calls.view.notes) = subst (λ (y : ℕ). 0 < total (is_attempt y m) (notes_of i t.calls.view.notes)) next_first (subst (λ (y : ℕ). 0 < total (is_attempt (parts o.next.word.0).first m) (notes_of y t.calls.view.notes)) next_slot advanced) in
              let a = grows i (is_attempt f m) in let b = noted_among run notes have j c at i (is_attempt f m) in
              let d = furthest m (omega (arith, here, a, b)) in let e = next_attempt in omega (arith, d, e)

      by_deed : (h : ℕ) (d : Deed g state p q) → get_elem? (deeds_of c) h ≡ some d → 0 < by_retry (is_retry id n) d → Founded (view_of c) d → WentFor id n
      by_deed h (operates x by s t a) there some_ founded = absurd (omega (arith, some_))
      by_deed h (retries x s t (had_ended e)) there some_ founded =
          let is = retry_is id n x some_ in let at_ = id_parts x.id i f is.0 low in
          let advanced = attempts_few (id_first x.id) x.attempt (notes_of (id_slot x.id) s.calls.view.notes) in let noted = founded.0 in
          absurd (not_gone x s t e.gone.found at_.0 at_.1 e.gone.cause founded.2 (e.gone.later (let z = at_.0 in omega (arith, z, inside)) (omega (arith, advanced, noted))))
      by_deed h (retries x s t (overtaken l u locked o)) there some_ founded =
          let is = retry_is id n x some_ in let at_ = id_parts x.id i f is.0 low in
          absurd (not_overtaken x l s u t locked o is.1 at_.0 at_.1 founded.2 founded.0)
      by_deed h (retries x s t (went_again l u locked w)) there some_ founded =
          let is = retry_is id n x some_ in
          record { place = j; client = c; in_crew = at; index = h; retry = x; before = s; after = t; lock = l; inside = u; locked = locked; again = w; there = there; id_is = is.0; attempt_is = is.1 }

    -- so its last attempt was made
    pub last_went : 0 < total (is_attempt f n) (notes_of i notes) → WentFor id n
    last_went some_ =
        let w = total_some (λ (v : View Asked). advances i f n v) ids (let a = own i f n in omega (arith, some_, a)) in
        let c = map_back view_of (all run) w.0 w.1 (ap (λ (l : List (View Asked)). get_elem? l w.0) (views_are run) ∙ w.2) in
        let noted : 0 < advances i f n (view_of c.0) = subst (λ (v : View Asked). 0 < advances i f n v) (sym c.2) w.3 in
        let out = taken_out c.0.thread c.0.is i f n in
        let d = total_some (by_retry (is_retry id n)) (deeds_of c.0) (omega (arith, noted, out)) in
        by_deed w.0 c.0 c.1 d.0 d.1 d.2 d.3 (all_at (Founded (view_of c.0)) (deeds_of c.0) d.0 d.1 (all_founded c.0.thread c.0.is) d.2)
