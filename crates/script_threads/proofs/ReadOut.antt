-- A reading that was made was read out: its half answered its end or that it is closed; or it failed, or gave the most that is read.
use Rattle.std.proofs.Common.{◌≡◌, ◌⊎◌, inl, inr, ℕ, ◌+◌, ◌<◌, ◌≤◌, Bool, true, false, List, [], ◌∷◌, ◌++◌, length, length-append, Option, Some, None, option_map, refl, ap, ◌∙◌, arith}
use Rattle.std.specs.Prelude.{IsSome}
use Rattle.std.proofs.lemmas.List.{length-take-le}
use lib.ListN.{get_elem?}
use mathlib.Core.Option.{some}
use Rattle.sock_words.specs.declared.plain.Plan.{Plan}
use Rattle.sock_words.specs.declared.socket_id.SocketId.{SocketId}
use Rattle.sock_io.specs.declared.link.Take.{Take}
use Rattle.sock_io.specs.declared.link.Take.TheVariants as take_
use Rattle.sock_io.specs.LinkHalves.{InState, TakeStep, IsTakeCount, taken_count, given_of}
use Rattle.brpc_model.specs.LinkFailureCauses.{reading_limit}
use Rattle.seat_programs.specs.sock_model.specs.declared.view.View.{View}
use Rattle.seat_programs.specs.sock_model.specs.SocketTableLayout.{open_index}
use Rattle.corr_core.specs.declared.marks.Plan as id_plan
use Rattle.rpc_reader.specs.ReaderBooks.{Books}
use Rattle.rpc_reader.specs.ReaderSocketFailing.{OpenedBy}
use Rattle.rpc_reader.specs.LinkReading.{EndsBy}
use Rattle.rpc_reader.specs.ReaderRunFromOpen.{throws, is_starved, ThrownIf, ReadToEnd, ReadIf}
use Rattle.rpc_reader.specs.ReadingTakeByTake.{Took, Takes, goes_on, piece_of, bytes_of}
use Rattle.rpc_reader.specs.Throwing.{ThrewAway}
use Rattle.rpc_reader.specs.declared.reading.How.{How}
use Rattle.rpc_reader.specs.declared.reading.How.TheVariants as how
use Rattle.script_parts.specs.call_whys.specs.call_told.proofs.Gains.{Gains, gains_read}
use Rattle.script_parts.specs.call_whys.specs.call_told.proofs.CallsEndedBehindLinks.{read_bytes}
use Rattle.script_parts.specs.call_whys.specs.call_told.proofs.ToldByReaders.{link_read}
use Rattle.script_threads.proofs.ReadingEndedEarly.{last_step, rose_some}
use Rattle.sock_words.specs.PackedWords.{NO_SOCKET}

-- it shows where its reading ended
pub data ShowsOut (t : InState) : Type 0 where
  at_end : t.gave_end ≡ true → ShowsOut t
  at_closing : (IsSome t.closed → t.closed ≡ Some true) → ShowsOut t
  at_failure : 0 < t.faults → ShowsOut t
  at_limit : reading_limit ≤ t.gave → ShowsOut t

-- a half that answered that it is closed tells so, where it tells
closed_told : (old new : Option Bool) → new ≡ option_map (λ _. true) old → IsSome new → new ≡ Some true
closed_told None new e told = absurd (cc)
closed_told (Some x) new e told = e

-- ## How much some takes gave

taken_length : (room : List ℕ) (answer : Take) → IsTakeCount room answer → taken_count answer ≡ length (given_of room answer)
taken_length room (take_.Took n) c = let l = length-take-le n room c.1 in omega (arith, l)
taken_length room take_.Empty c = refl
taken_length room take_.End c = refl
taken_length room take_.Closed c = refl
taken_length room take_.Failed c = refl

takes_length : (xs : List Took) (s t : InState) → Takes xs s t → t.gave ≡ s.gave + length (bytes_of xs)
takes_length [] s t e = let same = ap (λ (i : InState). i.gave) e in omega (arith, same)
takes_length (x ∷ xs) s t h =
    let first = h.1.gave in let count = taken_length x.room x.answer h.1.count in let rest = takes_length xs h.0 t h.2 in
    omega (arith, first, count, rest, length-append (piece_of x) (bytes_of xs))

-- ## The last take

by_answer : (s t : InState) (room : List ℕ) (answer : Take) → TakeStep s t room answer → goes_on false answer ≡ false → ShowsOut t
by_answer s t room (take_.Took n) step stops = absurd (cc)
by_answer s t room take_.Empty step stops = absurd (cc)
by_answer s t room take_.End step stops = at_end (step.end.0 refl)
by_answer s t room take_.Closed step stops = at_closing (closed_told s.closed t.closed (step.closed.0 refl))
by_answer s t room take_.Failed step stops = at_failure (rose_some s.faults t.faults (step.failed refl))

-- what came behind a fault was thrown away until then
by_throwing : (total : ℕ) (s t : InState) → total ≤ s.gave → ThrewAway false total s t → ShowsOut t
by_throwing total s t less (inl e) = at_limit (let same = ap (λ (i : InState). i.gave) e.1 in let most = e.0 in omega (arith, same, most, less))
by_throwing total s t less (inr h) = elim h.ends [
  | inl stops ↦ (let l = last_step h.earlier h.last s t h.steps in by_answer l.0 t h.last.room h.last.answer l.1 stops)
  | inr most ↦ at_limit (let n = takes_length (h.earlier ++ h.last ∷ []) s t h.steps in omega (arith, n, most, less))
]

module _ (q : id_plan.Plan) (link : ℕ) (calls : List ℕ) (s t : InState) where
  module _ (id : ℕ) (v w : View) (b b' : Books) (r : ReadToEnd q link calls false false s t id v w b b') where
    read_all : r.total ≤ r.between.gave
    read_all = let n = takes_length (r.read.earlier ++ r.read.last ∷ []) s r.between r.read.steps in let all = r.read.all in omega (arith, n, all)

    abbrev step : (m : InState) × TakeStep m r.between r.read.last.room r.read.last.answer
    step = last_step r.read.earlier r.read.last s r.between r.read.steps

    by_how : (h : How) → EndsBy false h r.read.last.answer r.read.left r.total → ThrownIf (throws h) false r.total r.between t → is_starved h ≡ false → ShowsOut t
    by_how how.End ends thrown calm = at_end (ap (λ (i : InState). i.gave_end) thrown ∙ step.1.end.0 ends.0)
    by_how how.Closed ends thrown calm = at_closing (closed_told step.0.closed t.closed (ap (λ (i : InState). i.closed) thrown ∙ step.1.closed.0 ends.0))
    by_how how.Failed ends thrown calm = at_failure (let a = rose_some step.0.faults r.between.faults (step.1.failed ends.0) in let c = ap (λ (i : InState). i.faults) thrown in omega (arith, a, c))
    by_how how.Limit ends thrown calm = at_limit (let a = read_all in let l = ends.0 in let c = ap (λ (i : InState). i.gave) thrown in omega (arith, a, l, c))
    by_how how.Fault ends thrown calm = by_throwing r.total r.between t read_all thrown
    by_how how.NoMemory ends thrown calm = absurd (cc)
    by_how how.Empty ends thrown calm = absurd (let k : false ≡ true = ends.1 in cc)

    shows_out : ShowsOut t
    shows_out = by_how r.how r.read.ends r.thrown (r.calm refl).1

  -- a link whose `open` got no socket isn't read
  pub read_or_none : (id : Option SocketId) (v w : View) (b b' : Books) → ReadIf q link calls false false s t id v w b b' → ((id ≡ None) × (t ≡ s)) ⊎ ((bytes : List ℕ) × Gains s t bytes × ShowsOut t)
  read_or_none None v w b b' r = inl (refl, r.1)
  read_or_none (Some id) v w b b' r = let n = link_read q link calls false false s t id.0 v w b b' r in inr (read_bytes q link calls false false s t b b' n, gains_read q link calls false false s t b b' n, shows_out id.0 v w b b' r)

  -- and then its reader found that noted
  pub found_none : (p : Plan) (operation : ℕ) (id : Option SocketId) (v noted w : View) (b b' : Books) → id ≡ None → OpenedBy p operation id v noted → ReadIf q link calls false false s t id noted w b b'
      → get_elem? w.finds 0 ≡ some record { place = open_index p operation; word = NO_SOCKET }
  found_none p operation None v noted w b b' none opened r = ap (λ (z : View). get_elem? z.finds 0) (r.0 ∙ opened.view)
  found_none p operation (Some id) v noted w b b' none opened r = absurd (cc)
