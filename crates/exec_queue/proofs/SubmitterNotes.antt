-- How the notes of a submitter grow by each call that it makes.
use Rattle.std.proofs.Common.{◌≡◌, ℕ, ◌+◌, ◌-◌, ◌<◌, ◌≤◌, ◌⊎◌, inl, inr, Bool, true, false, cond, nat_le, suc, zero, List, [], ◌∷◌, ◌++◌, refl, sym, ap, ◌∙◌, subst, arith}
use mathlib.Core.Logic.{dite}
use mathlib.Core.Option.{some, some-ne-none}
use native.Mathlib.Decide.{ℕ_discrete}
use lib.ListN.{get_elem?}
use Rattle.sock_io.specs.declared.link.Out.{Ghosts}
use Rattle.sock_io.specs.LinkHalves.{OutState}
use Rattle.sock_words.specs.declared.plain.Plan.{Plan}
use Rattle.sock_words.specs.PackedWords.{socket_id_slot, socket_id_version, vref_version}
use Rattle.sock_words.specs.Totals.{total}
use Rattle.sock_words.specs.declared.vref.Vref.{Vref}
use Rattle.sock_model.specs.declared.marks.Mark.{Mark}
use Rattle.sock_model.specs.declared.marks.Mark.TheVariants.{Hold, Saw, Failer, Freer, Met, Stored, Told, Recycling}
use Rattle.sock_model.specs.declared.chain.Heading.{Heading}
use Rattle.sock_model.specs.declared.view.View.{View}
use Rattle.sock_model.specs.MarkWeights.{is_failer, is_linked, is_met, is_saw}
use Rattle.sock_model.specs.SlotRows.{marks_of}
use Rattle.sock_model.specs.SocketTableLayout.{request_index}
use Rattle.sock_open.specs.slot_steps.proofs.RuleNumbers.{only-same}
use Rattle.sock_rule.specs.LinkFaultNotes.{end_note, is_fault}
use Rattle.sock_rule.specs.MarksComeAndGo.{Became}
use Rattle.sock_rule.specs.declared.homes.Letter.{Letter}
use Rattle.sock_table.specs.declared.refs.SockRef.{SockRef}
use Rattle.sock_table.specs.ReferenceCalls.{EndedBy, GaveBack}
use Rattle.sock_table.specs.ReferenceAnswers.{Held, GoneFrom, FailedBy, FoundFailed, NoneLater}
use Rattle.write_chain.specs.declared.right.Undelivered.{Undelivered}
use Rattle.write_chain.specs.NotingWhileWriting.{IsFinding, saw, met, told, faulted, Noted, nothing, finding, failing, Met_by, Wrote, WroteDrop}
use Rattle.write_chain.specs.SendingIntoChain.{Accepted, StartedBy, RefusedBy, FoundTaken, FullNow}
use Rattle.write_chain.specs.declared.entry.Started.{Started}
use Rattle.write_chain.specs.declared.entry.Started.TheVariants as started
use Rattle.write_chain.specs.declared.entry.Refused.{Refused}
use Rattle.write_chain.specs.declared.entry.Refused.TheVariants as refused
use Rattle.exec_queue.specs.StoppedQueue.{SawLater, failings, NotedFault, Failed, NotesFit, FoundStopped, FoundMore, Grew}

-- ## From call to call

module _ (id : ℕ) where
  pub later_still : (n : ℕ) (v w : View) → Grew id n v w → SawLater id v → SawLater id w
  later_still n v w g l = (l.0, l.1, (let a = g.saw l.0 in let b = l.2 in omega arith))

  pub fault_still : (n : ℕ) (v w : View) → Grew id n v w → NotedFault id v → NotedFault id w
  fault_still n v w g f = (f.0, (let a = g.fault f.0 in let b = f.1 in omega arith), (let a = g.met f.0 in let b : 0 < marks_of (is_met (socket_id_version id) f.0) (socket_id_slot id) v = f.2 in let c : 0 < marks_of (is_met (socket_id_version id) f.0) (socket_id_slot id) w = omega arith in c))

  pub no_growth : (v : View) → Grew id 0 v v
  no_growth v = record { saw = λ x. omega arith; fault = λ k. omega arith; met = λ k. omega arith; linked = λ h k. refl; failed = inl (omega arith); later = inl refl; more = λ x h. h }

  pub grew_then : (n m : ℕ) (u v w : View) → Grew id n u v → Grew id m v w → Grew id (n + m) u w
  grew_then n m u v w a b = record {
    saw = λ x. (let c = a.saw x in let d = b.saw x in omega arith);
    fault = λ k. (let c = a.fault k in let d = b.fault k in omega arith);
    met = λ k. (let c = a.met k in let d = b.met k in omega arith);
    linked = λ h k. b.linked h k ∙ a.linked h k;
    failed = fails a.failed b.failed;
    later = lates a.later b.later;
    more = λ x h. b.more x (a.more x h);
  }
    where
      fails : (failings id v ≡ failings id u + n) ⊎ ((failings id u + n ≤ failings id v) × NotedFault id v × SawLater id v) → (failings id w ≡ failings id v + m) ⊎ ((failings id v + m ≤ failings id w) × NotedFault id w × SawLater id w)
          → (failings id w ≡ failings id u + (n + m)) ⊎ ((failings id u + (n + m) ≤ failings id w) × NotedFault id w × SawLater id w)
      fails (inl x) (inl y) = inl (omega arith)
      fails (inl x) (inr y) = inr ((let z = y.0 in omega arith), y.1, y.2)
      fails (inr x) (inl y) = inr ((let z = x.0 in omega arith), fault_still m v w b x.1, later_still m v w b x.2)
      fails (inr x) (inr y) = inr ((let z = x.0 in let r = y.0 in omega arith), y.1, y.2)

      lates : (n ≡ 0) ⊎ SawLater id v → (m ≡ 0) ⊎ SawLater id w → (n + m ≡ 0) ⊎ SawLater id w
      lates (inl x) (inl y) = inl (omega arith)
      lates x (inr y) = inr y
      lates (inr x) (inl y) = inr (later_still m v w b x)

  -- what is known of its notes is known still
  pub notes_fit : (p : Plan) (stops n : ℕ) (heard full : Bool) (v w : View) → NotesFit p id stops heard full v → Grew id n v w → NotesFit p id (stops + n) heard full w
  notes_fit p stops n heard full v w f g = record {
    failed = fails f.failed g.failed;
    dead = λ some_. die g.failed some_;
    later = λ e. later_still n v w g (f.later e);
    taken = λ e q ql. g.more (request_index p q) (f.taken e q ql);
    made = λ h k some_. f.made h k (let a = g.linked h k in omega arith);
  }
    where
      fails : Failed id stops v → (failings id w ≡ failings id v + n) ⊎ ((failings id v + n ≤ failings id w) × NotedFault id w × SawLater id w) → Failed id (stops + n) w
      fails (inl x) (inl y) = inl (omega arith)
      fails (inl x) (inr y) = inr ((let z = y.0 in omega arith), y.1)
      fails (inr x) (inl y) = inr ((let z = x.0 in omega arith), fault_still n v w g x.1)
      fails (inr x) (inr y) = inr ((let z = x.0 in let r = y.0 in omega arith), y.1)

      die : (failings id w ≡ failings id v + n) ⊎ ((failings id v + n ≤ failings id w) × NotedFault id w × SawLater id w) → 0 < failings id w → SawLater id w
      die (inr y) some_ = y.2
      die (inl y) some_ = late g.later
        where
          late : (n ≡ 0) ⊎ SawLater id w → SawLater id w
          late (inr l) = l
          late (inl e) = later_still n v w g (f.dead (omega arith))

  -- and it is remembered what was answered
  pub now_told : (p : Plan) (stops : ℕ) (heard full : Bool) (v : View) → NotesFit p id stops heard full v → SawLater id v → NotesFit p id stops true full v
  now_told p stops heard full v f l = record { failed = f.failed; dead = f.dead; later = λ e. l; taken = f.taken; made = f.made }

  pub now_full : (p : Plan) (stops : ℕ) (heard full : Bool) (v : View) → NotesFit p id stops heard full v → ((q : ℕ) → q < p.requests → FoundTaken p q v.found) → NotesFit p id stops heard true v
  now_full p stops heard full v f t = record { failed = f.failed; dead = f.dead; later = f.later; taken = λ e. t; made = f.made }

  none_told : (heard : Bool) (v : View) → (heard ≡ true → SawLater id v) → NoneLater id v → heard ≡ false
  none_told false v l n = refl
  none_told true v l n = (let s = l refl in let b = n s.0 s.2 in absurd (omega (arith, s.1, b)))

  -- a seat that found the life alive was answered nothing of the kind, and never stopped it
  pub never_failed : (p : Plan) (stops : ℕ) (heard full : Bool) (v : View) → NotesFit p id stops heard full v → NoneLater id v → failings id v ≡ 0
  never_failed p stops heard full v f n = dite (ℕ_discrete (failings id v) 0) (λ e. e) (λ ne. (let s = f.dead (omega (arith, ne)) in let b = n s.0 s.2 in absurd (omega (arith, s.1, b))))

  pub never_stopped : (p : Plan) (stops : ℕ) (heard full : Bool) (v : View) → NotesFit p id stops heard full v → NoneLater id v → (heard ≡ false) × (stops ≡ 0)
  never_stopped p stops heard full v f n = (none_told heard v f.later n, (let z = never_failed p stops heard full v f n in by_cases f.failed z))
    where
      by_cases : Failed id stops v → failings id v ≡ 0 → stops ≡ 0
      by_cases (inl x) z = omega arith
      by_cases (inr x) z = (let y = x.0 in omega arith)

  -- ## A whole call

  pub notes_still : (p : Plan) (stops : ℕ) (heard full : Bool) (v w : View) → NotesFit p id stops heard full v → Grew id 0 v w → NotesFit p id stops heard full w
  notes_still p stops heard full v w f g = subst (λ (n : ℕ). NotesFit p id n heard full w) (let e : stops + 0 ≡ stops = omega arith in e) (notes_fit p stops 0 heard full v w f g)

  pub stopped_later : (found : ℕ) (v w : View) → FoundStopped id found v w → SawLater id w
  stopped_later found v w s = (vref_version found, s.later, (let a = s.saw in omega arith))

  -- a reference came, something was done, and it went back
  pub through : (a b n : ℕ) (u v w x : View) → a ≡ id → b ≡ id → Grew id 0 u v → Grew a n v w → Grew b 0 w x → Grew id n u x
  through a b n u v w x ea eb g h k = subst (λ (m : ℕ). Grew id m u x) (let e : 0 + n + 0 ≡ n = omega arith in e) (grew_then (0 + n) 0 u w x (grew_then 0 n u v w g (subst (λ (y : ℕ). Grew y n v w) ea h)) (subst (λ (y : ℕ). Grew y 0 w x) eb k))

  pub stopped_through : (a b found : ℕ) (u v w x : View) → a ≡ id → b ≡ id → Grew id 0 u v → FoundStopped a found v w → Grew b 0 w x → FoundStopped id found u x
  stopped_through a b found u v w x ea eb g s k = let t : FoundStopped id found v w = subst (λ (y : ℕ). FoundStopped y found v w) ea s in let l : Grew id 0 w x = subst (λ (y : ℕ). Grew y 0 w x) eb k in
      record { later = t.later; saw = (let c = g.saw (vref_version found) in let d = t.saw in let e = l.saw (vref_version found) in omega arith) }

pub full_through : (p : Plan) (n : ℕ) (u v w x : View) → v.found ≡ u.found → x.found ≡ w.found → FullNow p n v w → FullNow p n u x
full_through p n u v w x e d f = record { added = f.added; found = d ∙ (f.found ∙ ap (λ (l : List ℕ). f.added ++ l) e); each = f.each }

front : (xs ys : List ℕ) (n x : ℕ) → get_elem? xs n ≡ some x → get_elem? (xs ++ ys) n ≡ some x
front [] ys n x e = absurd (some-ne-none x (sym e))
front (y ∷ xs) ys zero x e = e
front (y ∷ xs) ys (suc n) x e = front xs ys n x e

pub all_taken : (p : Plan) (u x : View) → FullNow p p.requests u x → (q : ℕ) → q < p.requests → FoundTaken p q x.found
all_taken p u x f q ql = let a = f.each q ql in (a.0, (subst (λ (l : List ℕ). get_elem? l a.0 ≡ some (request_index p q)) (sym f.found) (front f.added u.found a.0 (request_index p q) a.1)))

-- ## Marks that come and go

-- no such note goes
pub record GoesQuietly (id : ℕ) (drops : List Mark) : Type 0 where
  pub saw : (x : ℕ) → total (is_saw x) drops ≡ 0
  pub fault : (k : ℕ) → total (is_fault k) drops ≡ 0
  pub met : (k : ℕ) → total (is_met (socket_id_version id) k) drops ≡ 0
  pub linked : (h k : ℕ) → total (is_linked h k) drops ≡ 0
  pub failer : total (is_failer (socket_id_version id)) drops ≡ 0

none_goes : (id : ℕ) → GoesQuietly id []
none_goes id = record { saw = λ x. refl; fault = λ k. refl; met = λ k. refl; linked = λ h k. refl; failer = refl }

hold_goes : (id h : ℕ) → GoesQuietly id (Hold h ∷ [])
hold_goes id h = record { saw = λ x. refl; fault = λ k. refl; met = λ k. refl; linked = λ h k. refl; failer = refl }

module _ (id n : ℕ) (v w : View) (adds drops : List Mark) (here : (f : Mark → ℕ) → marks_of f (socket_id_slot id) w + total f drops ≡ marks_of f (socket_id_slot id) v + total f adds) (quiet : GoesQuietly id drops) where
  pub grew_by : ((h k : ℕ) → total (is_linked h k) adds ≡ 0) → (total (is_failer (socket_id_version id)) adds ≡ n) ⊎ ((n ≤ total (is_failer (socket_id_version id)) adds) × NotedFault id w × SawLater id w) → (n ≡ 0) ⊎ SawLater id w → FoundMore v w → Grew id n v w
  grew_by linked failer later more = record {
    saw = λ x. (let a = here (is_saw x) in let b = quiet.saw x in omega arith);
    fault = λ k. (let a = here (is_fault k) in let b = quiet.fault k in omega arith);
    met = λ k. (let a = here (is_met (socket_id_version id) k) in let b = quiet.met k in omega arith);
    linked = λ h k. (let a = here (is_linked h k) in let b = quiet.linked h k in let c = linked h k in omega arith);
    failed = by_cases failer;
    later = later;
    more = more;
  }
    where
      by_cases : (total (is_failer (socket_id_version id)) adds ≡ n) ⊎ ((n ≤ total (is_failer (socket_id_version id)) adds) × NotedFault id w × SawLater id w) → (failings id w ≡ failings id v + n) ⊎ ((failings id v + n ≤ failings id w) × NotedFault id w × SawLater id w)
      by_cases (inl e) = inl (let a = here (is_failer (socket_id_version id)) in let b = quiet.failer in omega arith)
      by_cases (inr e) = inr ((let a = here (is_failer (socket_id_version id)) in let b = quiet.failer in let c = e.0 in omega arith), e.1, e.2)

  -- a word that was found is noted
  pub saw_it : (x : ℕ) → 0 < total (is_saw x) adds → marks_of (is_saw x) (socket_id_slot id) v < marks_of (is_saw x) (socket_id_slot id) w
  saw_it x some_ = (let a = here (is_saw x) in let b = quiet.saw x in omega arith)

same_found : (v w : View) → w.found ≡ v.found → FoundMore v w
same_found v w e x h = subst (λ (l : List ℕ). (k : ℕ) × (get_elem? l k ≡ some x)) (sym e) h

-- ## Each call

-- notes at the end of a life
pub ended_none : (p : Plan) (b : Bool) (x : ℕ) (notes : List Mark) → EndedBy p b x notes → ((h k : ℕ) → total (is_linked h k) notes ≡ 0) × ((h : ℕ) → total (is_failer h) notes ≡ 0)
ended_none p false x notes is = (λ h k. ap (total (is_linked h k)) is, λ h. ap (total (is_failer h)) is)
ended_none p true x notes is = (λ h k. ap (total (is_linked h k)) is.1 ∙ link h k (nat_le (x + 1) 4294967292), λ h. ap (total (is_failer h)) is.1 ∙ fail h (nat_le (x + 1) 4294967292))
  where
    link : (h k : ℕ) (b : Bool) → total (is_linked h k) (Freer (x - 1) ∷ Met (x + 1 - 2) is.0 ∷ end_note p is.0 ∷ cond b [] (Recycling (x + 1) ∷ [])) ≡ 0
    link h k true = refl
    link h k false = refl

    fail : (h : ℕ) (b : Bool) → total (is_failer h) (Freer (x - 1) ∷ Met (x + 1 - 2) is.0 ∷ end_note p is.0 ∷ cond b [] (Recycling (x + 1) ∷ [])) ≡ 0
    fail h true = refl
    fail h false = refl

saw_first : (x : ℕ) (ms : List Mark) → 0 < total (is_saw x) (Saw x ∷ ms)
saw_first x ms = (let o = only-same x in omega arith)

module _ (id : ℕ) (v w : View) where
  pub held_grew : Held id v w → Grew id 0 v w
  held_grew a = grew_by id 0 v w (Saw (socket_id_version id) ∷ Hold (socket_id_version id) ∷ []) [] a.here (none_goes id) (λ h k. refl) (inl refl) (inl refl) (same_found v w (ap (λ (y : View). y.found) a.others))

  pub gone_grew : (found : ℕ) → GoneFrom id found v w → Grew id 0 v w
  gone_grew found g = let n = ended_none v.plan g.ended g.version g.notes g.by in grew_by id 0 v w (Saw (vref_version found) ∷ g.notes) [] g.became.here (none_goes id) (λ h k. (let e = n.0 h k in omega arith)) (inl (let e = n.1 (socket_id_version id) in omega arith)) (inl refl) (same_found v w (ap (λ (y : View). y.found) g.became.others))

  pub gone_stopped : (found : ℕ) → GoneFrom id found v w → FoundStopped id found v w
  gone_stopped found g = record { later = g.later; saw = saw_it id 0 v w (Saw (vref_version found) ∷ g.notes) [] g.became.here (none_goes id) (vref_version found) (saw_first (vref_version found) g.notes) }

  pub back_grew : (ended : Bool) → GaveBack (socket_id_slot id) v w (Hold (socket_id_version id)) ended → Grew id 0 v w
  back_grew ended g = let n = ended_none v.plan ended g.version g.notes g.by in grew_by id 0 v w g.notes (Hold (socket_id_version id) ∷ []) g.became.here (hold_goes id (socket_id_version id)) n.0 (inl (n.1 (socket_id_version id))) (inl refl) (same_found v w (ap (λ (y : View). y.found) g.became.others))

  pub failed_grew : (code : ℕ) → FailedBy id code v w → Grew id 1 v w
  failed_grew code a = let h : ℕ = socket_id_version id in grew_by id 1 v w (Failer h ∷ Saw (h + 1) ∷ Stored h code ∷ Told h code ∷ []) [] a.here (none_goes id) (λ g k. refl) (inl (let o = only-same h in omega arith)) (inr (h + 1, omega arith, (let b = a.here (is_saw (h + 1)) in let o = only-same (h + 1) in omega arith))) (same_found v w (ap (λ (y : View). y.found) a.others))

  saw_grew : (x : ℕ) → Became (socket_id_slot id) v w (Saw x ∷ []) [] → Grew id 0 v w
  saw_grew x a = grew_by id 0 v w (Saw x ∷ []) [] a.here (none_goes id) (λ h k. refl) (inl refl) (inl refl) (same_found v w (ap (λ (y : View). y.found) a.others))

  saw_stopped : (found : ℕ) → vref_version found ≡ socket_id_version id + 1 → Became (socket_id_slot id) v w (Saw (vref_version found) ∷ []) [] → FoundStopped id found v w
  saw_stopped found e a = record { later = omega arith; saw = saw_it id 0 v w (Saw (vref_version found) ∷ []) [] a.here (none_goes id) (vref_version found) (saw_first (vref_version found) []) }

  pub found_failed_grew : (found : ℕ) → FoundFailed id found v w → Grew id 0 v w
  found_failed_grew found a = saw_grew (vref_version found) a.1

  pub found_failed_stopped : (found : ℕ) → FoundFailed id found v w → FoundStopped id found v w
  found_failed_stopped found a = saw_stopped found a.0 a.1

  accepted_grew : (p : Plan) (heading : Heading) (bytes : List ℕ) → Accepted (Saw (socket_id_version id) ∷ []) p id heading bytes v w → Grew id 0 v w
  accepted_grew p heading bytes a = grew_by id 0 v w (Met (socket_id_version id) a.entry.link ∷ Saw (socket_id_version id) ∷ []) [] a.marks.here (none_goes id) (λ h k. refl) (inl refl) (inl refl) a.seen

module _ (v w : View) (p : Plan) (sock : SockRef) where
  pub started_grew : {O : Type 0} {g : Ghosts O} (heading : Heading) (bytes : List ℕ) (s : Started O g) → StartedBy p sock heading bytes s v w → Grew sock.id.0 0 v w
  started_grew heading bytes (started.Queued r) b = accepted_grew sock.id.0 v w p heading bytes b.1
  started_grew heading bytes (started.Right r) b = accepted_grew sock.id.0 v w p heading bytes b.2

  pub refused_grew : (msg : Letter) (r : Refused) → RefusedBy p sock msg r v w → Grew sock.id.0 0 v w
  refused_grew msg (refused.Failed s m found) b = saw_grew sock.id.0 v w _ b.3
  refused_grew msg (refused.Full s m) b = grew_by sock.id.0 0 v w (Saw (socket_id_version sock.id.0) ∷ []) [] b.7.here (none_goes sock.id.0) (λ h k. refl) (inl refl) (inl refl) b.9

  -- why it was refused
  pub failed_stopped : (msg m : Letter) (s : SockRef) (found : Vref) (r : Refused) → r ≡ refused.Failed s m found → RefusedBy p sock msg r v w → FoundStopped sock.id.0 found.0 v w
  failed_stopped msg m s found r e b = let d : RefusedBy p sock msg (refused.Failed s m found) v w = subst (λ (x : Refused). RefusedBy p sock msg x v w) e b in saw_stopped sock.id.0 v w found.0 d.2 d.3

  pub full_now : (msg m : Letter) (s : SockRef) (r : Refused) → r ≡ refused.Full s m → RefusedBy p sock msg r v w → FullNow p p.requests v w
  full_now msg m s r e b = let d : RefusedBy p sock msg (refused.Full s m) v w = subst (λ (x : Refused). RefusedBy p sock msg x v w) e b in d.2

-- ## Writing

-- what is noted while a link is written
pub record WritesQuietly (id : ℕ) (v : View) (notes : List Mark) : Type 0 where
  pub linked : (h k : ℕ) → total (is_linked h k) notes ≡ 0
  pub failer : (total (is_failer (socket_id_version id)) notes ≡ 0) ⊎ ((k : ℕ) × Met_by id v k × (0 < total (is_fault k) notes) × (0 < total (is_saw (socket_id_version id + 1)) notes))

finding_none : {h : ℕ} (m : Mark) → IsFinding h m → ((g k : ℕ) → is_linked g k m ≡ 0) × ((g : ℕ) → is_failer g m ≡ 0)
finding_none _ (saw w) = (λ g k. refl, λ g. refl)
finding_none _ (met l) = (λ g k. refl, λ g. refl)
finding_none _ (told c) = (λ g k. refl, λ g. refl)
finding_none _ (faulted k) = (λ g k. refl, λ g. refl)

module _ {O : Type 0} {state : O → OutState} (id : ℕ) (v : View) where
  writes_quietly : (l : List Mark) → Noted state (Met_by id v) (socket_id_version id) l → WritesQuietly id v l
  writes_quietly [] nothing = record { linked = λ h k. refl; failer = inl refl }
  writes_quietly _ (finding m ms is rest) = let a = finding_none m is in let b = writes_quietly ms rest in record { linked = λ h k. (let c = a.0 h k in let d = b.linked h k in omega arith); failer = by_cases a b.failer }
    where
      by_cases : ((g k : ℕ) → is_linked g k m ≡ 0) × ((g : ℕ) → is_failer g m ≡ 0) → (total (is_failer (socket_id_version id)) ms ≡ 0) ⊎ ((k : ℕ) × Met_by id v k × (0 < total (is_fault k) ms) × (0 < total (is_saw (socket_id_version id + 1)) ms))
          → (total (is_failer (socket_id_version id)) (m ∷ ms) ≡ 0) ⊎ ((k : ℕ) × Met_by id v k × (0 < total (is_fault k) (m ∷ ms)) × (0 < total (is_saw (socket_id_version id + 1)) (m ∷ ms)))
      by_cases a (inl e) = inl (let c = a.1 (socket_id_version id) in omega arith)
      by_cases a (inr e) = inr (e.0, e.1, (let c = e.2 in omega arith), (let c = e.3 in omega arith))
  writes_quietly _ (failing k ms its why rest) = let b = writes_quietly ms rest in let h = socket_id_version id in record { linked = λ g l. (let d = b.linked g l in omega arith); failer = inr (k, its, (let o = only-same k in omega arith), (let o = only-same (h + 1) in omega arith)) }

  pub wrote_grew : (u : View) → Wrote state id u v → Grew id 0 u v
  wrote_grew u a = let q = writes_quietly a.notes a.noted in grew_by id 0 u v a.notes [] a.became.here (none_goes id) q.linked (by_cases q.failer) (inl refl) (same_found u v (ap (λ (y : View). y.found) a.became.others))
    where
      by_cases : (total (is_failer (socket_id_version id)) a.notes ≡ 0) ⊎ ((k : ℕ) × Met_by id v k × (0 < total (is_fault k) a.notes) × (0 < total (is_saw (socket_id_version id + 1)) a.notes)) → (total (is_failer (socket_id_version id)) a.notes ≡ 0) ⊎ ((0 ≤ total (is_failer (socket_id_version id)) a.notes) × NotedFault id v × SawLater id v)
      by_cases (inl e) = inl e
      by_cases (inr e) = let i = socket_id_slot id in let h = socket_id_version id in inr (omega arith, (e.0, (let x : marks_of (is_fault e.0) i v + 0 ≡ marks_of (is_fault e.0) i u + total (is_fault e.0) a.notes = a.became.here (is_fault e.0) in let c = e.2 in omega arith), e.1), (h + 1, omega arith, (let x : marks_of (is_saw (h + 1)) i v + 0 ≡ marks_of (is_saw (h + 1)) i u + total (is_saw (h + 1)) a.notes = a.became.here (is_saw (h + 1)) in let c = e.3 in omega arith)))

pub dropped_grew : {O : Type 0} {state : O → OutState} (p : Plan) (id : ℕ) (msg : Undelivered) (u v : View) → WroteDrop state p id msg u v → Grew id 0 u v
dropped_grew p id msg u v a = let g = wrote_grew id (record v { stores = u.stores; drops = u.drops }) u a.wrote in record { saw = g.saw; fault = g.fault; met = g.met; linked = g.linked; failed = g.failed; later = g.later; more = g.more }
