-- A link whose reading ended early shows so.
use Rattle.std.proofs.Common.{◌≡◌, ℕ, zero, suc, ◌+◌, ◌<◌, ◌≤◌, ◌⊎◌, inl, inr, Bool, true, false, if◌then◌else◌, List, [], ◌∷◌, ◌++◌, length-append, slice_get, Some, None, Contains, refl, sym, ap, ◌∙◌, subst, arith}
use Rattle.std.specs.Prelude.{Option, IsTrue, IfSome, option_map}
use Rattle.std.proofs.lemmas.Option.{same_Some}
use mathlib.Core.Option.{some, some-injective, some-ne-none}
use lib.ListN.{get_elem?}
use Rattle.sock_words.specs.ErrorCodes.{EEOF, ERESPONSE}
use Rattle.sock_words.specs.declared.plain.Plan.{Plan}
use Rattle.sock_words.specs.declared.socket_id.SocketId.{SocketId}
use Rattle.sock_io.specs.declared.link.Out.{Ghosts}
use Rattle.sock_io.specs.LinkHalves.{OutState, InState, TakeStep}
use Rattle.sock_io.specs.FaultCauses.{Rose}
use Rattle.brpc_model.specs.Frame.{FrameFault, Faulty, judged}
use Rattle.brpc_model.specs.FrameStream.{Stream}
use Rattle.brpc_model.specs.LinkFailureCauses.{HasFault, reading_limit}
use Rattle.seat_programs.specs.sock_model.specs.declared.view.View.{View}
use Rattle.corr_core.specs.declared.marks.Plan as id_plan
use Rattle.prpc_frame.proofs.StreamCuts.{stream_begins}
use Rattle.prpc_frame.proofs.LastingStreamFacts.{faulty}
use Rattle.rpc_reader.specs.ReaderBooks.{Books}
use Rattle.rpc_reader.specs.Met.{MetAll}
use Rattle.rpc_reader.specs.LinkReading.{EndsBy, code_of as reading_code}
use Rattle.rpc_reader.specs.ReaderRunFromOpen.{fails, throws, is_starved, ThrownIf, ReadToEnd, ReadIf}
use Rattle.rpc_reader.specs.ReadingTakeByTake.{Took, Takes}
use Rattle.rpc_reader.specs.declared.reading.How.{How}
use Rattle.rpc_reader.specs.declared.reading.How.TheVariants as how
use Rattle.call_run.specs.ReadersOfLinks.{LinkReader, nothing_read, IsReader, AreReaders}
use Rattle.script_parts.specs.script_facts.proofs.FilteredLists.{has_from}
use Rattle.script_parts.specs.call_whys.specs.call_deeds.proofs.ReadersBesideClients.{read_early, early_links}
use Rattle.script_parts.specs.call_whys.specs.call_deeds.proofs.ReaderDeeds.{early_if}
use Rattle.script_parts.specs.failed_reasons.proofs.CodesOfReadingEnds.{EndedIf, ReadEnded}
use Rattle.script_parts.specs.call_whys.specs.call_told.proofs.Gains.{met_bytes, rest_bytes, gains_read}
use Rattle.script_parts.specs.call_whys.specs.call_told.proofs.CallsEndedBehindLinks.{read_bytes}
use Rattle.script_parts.specs.call_whys.specs.call_told.proofs.ToldByReaders.{link_read, if_bytes, reader_gave, each_read, readers_gave}

-- a reading half that gave these bytes shows that its reading ended early
abbrev pub ShowsEarly : List ℕ → InState → Type 0
ShowsEarly gave t = IsTrue t.gave_end ⊎ (HasFault gave ⊎ ((reading_limit ≤ t.gave) ⊎ (0 < t.faults)))

-- the last of some takes
pub last_step : (xs : List Took) (x : Took) (s t : InState) → Takes (xs ++ x ∷ []) s t → (m : InState) × TakeStep m t x.room x.answer
last_step [] x s t h = (s, subst (λ (u : InState). TakeStep s u x.room x.answer) (sym h.2) h.1)
last_step (y ∷ xs) x s t h = last_step xs x h.0 t h.2

pub rose_some : (a b : ℕ) → Rose a b → 0 < b
rose_some a b h = omega (arith, h)

-- a fault behind the frames that were met is one of all bytes, also where more come
fault_stays : (slots : ℕ) (bytes left more : List ℕ) (b b' : Books) → MetAll slots bytes left b b' → (f : FrameFault) → judged left ≡ Faulty f → HasFault (bytes ++ more)
fault_stays slots bytes left more b b' m f e = (m.cut.size, f, ap (λ (s : Stream). s.ending) (stream_begins bytes left _ m.cut more) ∙ ap (λ (s : Stream). s.ending) (faulty m.cut.size left more f e))

-- a reading half that gave these bytes shows why its reading ended with the code: at a fault in them; or since it was closed, as far as it tells that, or ended early
abbrev pub ShowsEnd : List ℕ → InState → ℕ → Type 0
ShowsEnd gave t code = ((code ≡ ERESPONSE) × HasFault gave) ⊎ ((code ≡ EEOF) × (IfSome t.closed (λ closed. closed ≡ true) ⊎ ShowsEarly gave t))

closed_true : (o u : Option Bool) → u ≡ option_map (λ _. true) o → IfSome u (λ closed. closed ≡ true)
closed_true None u e = subst (λ (y : Option Bool). IfSome y (λ closed. closed ≡ true)) (sym e) tt
closed_true (Some b) u e = subst (λ (y : Option Bool). IfSome y (λ closed. closed ≡ true)) (sym e) refl

module _ (q : id_plan.Plan) (link : ℕ) (calls : List ℕ) (s t : InState) where
  module _ (id : ℕ) (v w : View) (b b' : Books) (r : ReadToEnd q link calls false false s t id v w b b') where
    abbrev bytes : List ℕ
    bytes = read_bytes q link calls false false s t b b' (link_read q link calls false false s t id v w b b' r)

    abbrev step : (m : InState) × TakeStep m r.between r.read.last.room r.read.last.answer
    step = last_step r.read.earlier r.read.last s r.between r.read.steps

    shows_by : (h : How) → EndsBy false h r.read.last.answer r.read.left r.total → ThrownIf (throws h) false r.total r.between t → is_starved h ≡ false → fails h ≡ true → ShowsEarly bytes t
    shows_by how.End ends thrown calm e = inl (ap (λ (i : InState). i.gave_end) thrown ∙ step.1.end.0 ends.0)
    shows_by how.Failed ends thrown calm e = inr (inr (inr (let a = rose_some step.0.faults r.between.faults (step.1.failed ends.0) in let c = ap (λ (i : InState). i.faults) thrown in omega arith)))
    shows_by how.Limit ends thrown calm e = inr (inr (inl (
        let n = link_read q link calls false false s t id v w b b' r in
        let a = gains_read q link calls false false s t b b' n in
        let c = a.count in
        let d = length-append (met_bytes q link calls false false s t b b' n) (rest_bytes q link calls false false s t b b' n) in
        let f = r.read.all in let l = ends.0 in omega arith
        )))
    shows_by how.Fault ends thrown calm e = inr (inl (fault_stays q.slots (met_bytes q link calls false false s t b b' (link_read q link calls false false s t id v w b b' r)) r.read.left (rest_bytes q link calls false false s t b b' (link_read q link calls false false s t id v w b b' r)) b r.met r.read.met ends.0 ends.1))
    shows_by how.NoMemory ends thrown calm e = absurd (cc)
    shows_by how.Closed ends thrown calm e = absurd (cc)
    shows_by how.Empty ends thrown calm e = absurd (cc)

    pub shows_early : fails r.how ≡ true → ShowsEarly bytes t
    shows_early e = shows_by r.how r.read.ends r.thrown (r.calm refl).1 e

    -- with which code it ended
    ends_by : (h : How) → EndsBy false h r.read.last.answer r.read.left r.total → ThrownIf (throws h) false r.total r.between t → is_starved h ≡ false → (fails h ≡ true → ShowsEarly bytes t) → ShowsEnd bytes t (reading_code h)
    ends_by how.End ends thrown calm early = inr (refl, inr (early refl))
    ends_by how.Failed ends thrown calm early = inr (refl, inr (early refl))
    ends_by how.Limit ends thrown calm early = inr (refl, inr (early refl))
    ends_by how.Fault ends thrown calm early = inl (refl, fault_stays q.slots (met_bytes q link calls false false s t b b' (link_read q link calls false false s t id v w b b' r)) r.read.left (rest_bytes q link calls false false s t b b' (link_read q link calls false false s t id v w b b' r)) b r.met r.read.met ends.0 ends.1)
    ends_by how.Closed ends thrown calm early = inr (refl, inl (closed_true step.0.closed t.closed (ap (λ (i : InState). i.closed) thrown ∙ step.1.closed.0 ends.0)))
    ends_by how.Empty ends thrown calm early = absurd (let k : false ≡ true = ends.1 in cc)
    ends_by how.NoMemory ends thrown calm early = absurd (cc)

    pub shows_end : ShowsEnd bytes t (reading_code r.how)
    shows_end = ends_by r.how r.read.ends r.thrown (r.calm refl).1 shows_early

  end_if : (o : Option SocketId) (v w : View) (b b' : Books) (r : ReadIf q link calls false false s t o v w b b') (code : ℕ) → EndedIf q link calls s t o v w b b' r code → ShowsEnd (if_bytes q link calls false false s t o v w b b' r) t code
  end_if None v w b b' r code e = absurd e
  end_if (Some id) v w b b' r code e = subst (ShowsEnd (bytes id.0 v w b b' r) t) e (shows_end id.0 v w b b' r)

-- ## Readers

named : (b : Bool) (l : ℕ) (rest : List ℕ) (i k : ℕ) → slice_get ((if b then l ∷ [] else []) ++ rest) i ≡ Some k → ((b ≡ true) × (l ≡ k)) ⊎ ((j : ℕ) × (slice_get rest j ≡ Some k))
named true l rest zero k e = inl (refl, same_Some l k e)
named true l rest (suc i) k e = inr (i, e)
named false l rest i k e = inr (i, e)

module _ {O : Type 0} (g : Ghosts O) (state : O → OutState) (p : Plan) (q : id_plan.Plan) (calls : List ℕ) where
  shows_if : (link operation : ℕ) (s t : InState) (o : Option SocketId) (v w : View) (b b' : Books) (r : ReadIf q link calls false false s t o v w b b') → early_if g state p operation q link calls false false s t o v w b b' r ≡ true → ShowsEarly (if_bytes q link calls false false s t o v w b b' r) t
  shows_if link operation s t None v w b b' r e = absurd (cc)
  shows_if link operation s t (Some id) v w b b' r e = shows_early q link calls s t id.0 v w b b' r e

module _ {O : Type 0} {g : Ghosts O} (state : O → OutState) (p : Plan) (q : id_plan.Plan) (calls : List ℕ) where
  reader_shows : (x : LinkReader g) (is : IsReader p q calls x) → read_early state p q calls x is ≡ true → ShowsEarly (reader_gave p q calls x is) x.behind
  reader_shows x is e = shows_if g state p q calls x.link x.operation x.before x.behind is.ran.id is.ran.noted x.seat.me.0 nothing_read x.books is.ran.read e

  -- link k is one of theirs, and shows it
  pub record HasShown (xs : List (LinkReader g)) (gave : ℕ → List ℕ) (link k : ℕ) : Type 0 where
    pub place : ℕ
    pub link_is : link + place ≡ k
    pub reader : LinkReader g
    pub at : slice_get xs place ≡ Some reader
    pub shows : ShowsEarly (gave place) reader.behind

  shown_at : (link : ℕ) (os : List ℕ) (xs : List (LinkReader g)) (a : AreReaders p q calls link os xs) (i k : ℕ) → slice_get (early_links state p q calls link os xs a) i ≡ Some k → HasShown xs (readers_gave p q calls xs (each_read p q calls link os xs a)) link k
  shown_at link [] [] a i k e = absurd (cc)
  shown_at link (o ∷ os) (x ∷ xs) a i k e = elim (named (read_early state p q calls x a.0) x.link (early_links state p q calls (link + 1) os xs a.3) i k e) [
    | inl h ↦ record { place = 0; link_is = (let b = h.1 in let c = a.1 in omega arith); reader = x; at = refl; shows = reader_shows x a.0 h.0 }
    | inr h ↦ (let r = shown_at (link + 1) os xs a.3 h.0 k h.1 in let l = r.link_is in record { place = suc r.place; link_is = omega arith; reader = r.reader; at = r.at; shows = r.shows })
  ]
  shown_at link [] (x ∷ xs) a i k e = absurd a
  shown_at link (o ∷ os) [] a i k e = absurd a

  -- each link whose reading ended early shows it
  pub early_shown : (link : ℕ) (os : List ℕ) (xs : List (LinkReader g)) (a : AreReaders p q calls link os xs) (k : ℕ) → Contains (early_links state p q calls link os xs a) k → HasShown xs (readers_gave p q calls xs (each_read p q calls link os xs a)) link k
  early_shown link os xs a k h = let w = has_from (early_links state p q calls link os xs a) k h in shown_at link os xs a w.0 k w.1

module _ {O : Type 0} {g : Ghosts O} (p : Plan) (q : id_plan.Plan) (calls : List ℕ) where
  -- of a reader
  pub reader_end : (x : LinkReader g) (is : IsReader p q calls x) (code : ℕ) → ReadEnded p q calls x is code → ShowsEnd (reader_gave p q calls x is) x.behind code
  reader_end x is code e = end_if q x.link calls x.before x.behind is.ran.id is.ran.noted x.seat.me.0 nothing_read x.books is.ran.read code e

  -- the j-th of them reads the j-th link, and what that gave
  pub record HasPlace (link : ℕ) (os : List ℕ) (xs : List (LinkReader g)) (a : AreReaders p q calls link os xs) (j : ℕ) (x : LinkReader g) : Type 0 where
    pub is : IsReader p q calls x
    pub link_is : x.link ≡ link + j
    pub operation : get_elem? os j ≡ some x.operation
    pub gave_is : readers_gave p q calls xs (each_read p q calls link os xs a) j ≡ reader_gave p q calls x is

  pub place_of : (link : ℕ) (os : List ℕ) (xs : List (LinkReader g)) (a : AreReaders p q calls link os xs) (j : ℕ) (x : LinkReader g) → get_elem? xs j ≡ some x → HasPlace link os xs a j x
  place_of link [] [] a j x e = absurd (some-ne-none x (sym e))
  place_of link (o ∷ os) (y ∷ xs) a zero x e = subst (HasPlace link (o ∷ os) (y ∷ xs) a 0) (some-injective y x e) (record { is = a.0; link_is = (let l = a.1 in omega (arith, l)); operation = ap some (sym a.2); gave_is = refl })
  place_of link (o ∷ os) (y ∷ xs) a (suc j) x e = let r = place_of (link + 1) os xs a.3 j x e in record { is = r.is; link_is = (let l = r.link_is in omega (arith, l)); operation = r.operation; gave_is = r.gave_is }
  place_of link [] (y ∷ xs) a j x e = absurd a
  place_of link (o ∷ os) [] a j x e = absurd a
