-- The clients of a run: over all of them no two messages have one place index.
use Rattle.std.proofs.Common.{◌≡◌, ℕ, zero, suc, ◌+◌, ◌*◌, ◌/◌, ◌%◌, ◌<◌, ◌≤◌, List, [], ◌∷◌, map, refl, sym, ◌∙◌, subst, arith}
use Rattle.std.specs.List.{AllByRecursion}
use Rattle.std.proofs.lemmas.Nat.{div-add-mod'}
use mathlib.Core.Logic.{dite}
use mathlib.Core.Option.{some, some-injective, some-ne-none}
use native.Mathlib.Decide.{ℕ_discrete}
use lib.ListN.{get_elem?}
use Rattle.sock_io.specs.declared.link.Out.{Ghosts}
use Rattle.sock_io.specs.LinkHalves.{OutState}
use Rattle.sock_words.specs.declared.plain.Plan.{Plan}
use Rattle.sock_model.specs.declared.chain.Entry.{Entry}
use Rattle.seat_programs.specs.declared.task.Task.{Task}
use Rattle.corr_core.specs.IdSlotLaw.{is_attempt}
use Rattle.corr_core.specs.declared.marks.Note.{Note}
use Rattle.corr_core.specs.declared.marks.Noted.{Noted}
use Rattle.corr_core.specs.declared.marks.Plan as id_plan
use Rattle.corr_core.specs.declared.marks.View.{View}
use Rattle.corr_core.proofs.NoteSums.{only-else, only_le, pair-at, total_some}
use Rattle.id_rule.specs.LawfulIdTable.{notes_of}
use Rattle.sock_message.specs.Asked.{Asked}
use Rattle.corr_id.specs.declared.calls.IdLock.{IdLock}
use Rattle.call_run.specs.call_client.specs.call_errors.specs.declared.retries.Retry.{Retry}
use Rattle.call_run.specs.call_client.specs.call_attempts.specs.ClientAtBothTables.{Both}
use Rattle.call_run.specs.call_client.specs.call_attempts.specs.WaitingRetries.{Locked, WentAgain, had_ended, overtaken, went_again}
use Rattle.call_run.specs.call_client.specs.ClientRun.{MayMakeAll}
use Rattle.call_run.specs.Threads.{Thread, IsThread}
use Rattle.call_places.specs.ClientNotesCounted.{makes, HaveNotesOf}
use Rattle.call_places.specs.DeedsOfCallClient.{Deed, operates, retries, deeds, own_entries}
use Rattle.call_places.proofs.NoteWeights.{term, each_less}
use Rattle.call_places.proofs.Still.{is_retry, advances}
use Rattle.call_places.proofs.RetryAndIdCounts.{call_in, by_retry, Knows, tried_few, made_few, all_known, task_total}
use Rattle.call_places.proofs.LabelPlaceIndices.{at_place, again_at, own_place, none_again}
use Rattle.call_places.proofs.TaskNumbers.{numbered, own_calls, own_labels, low_number, no_labels}
use Rattle.call_places.proofs.IdsOfRetries.{IdLaws, IsIdOf, version_low, lock_id, one_id, some_made}
use Rattle.sock_words.specs.PackedWords.{id_slot, id_first}
use Rattle.sock_words.specs.Totals.{total}

-- a client's whole run
pub record Client {O : Type 0} (g : Ghosts O) (state : O → OutState) (p : Plan) (q : id_plan.Plan) : Type 0 where
  pub thread : Thread g
  pub first : ℕ
  pub is : IsThread state p q first thread

pub total_map : {A B : Type 0} (f : B → ℕ) (h : A → B) (xs : List A) → total f (map h xs) ≡ total (λ x. f (h x)) xs
total_map f h [] = refl
total_map f h (x ∷ xs) = let a = total_map f h xs in omega arith

all_at : {A : Type 0} (P : A → Type 0) (xs : List A) (i : ℕ) (x : A) → AllByRecursion P xs → get_elem? xs i ≡ some x → P x
all_at P [] i x a e = absurd (some-ne-none x (sym e))
all_at P (y ∷ xs) zero x a e = subst P (some-injective y x e) a.0
all_at P (y ∷ xs) (suc i) x a e = all_at P xs i x a.1 e

module _ {O : Type 0} {g : Ghosts O} {state : O → OutState} {p : Plan} {q : id_plan.Plan} where
  abbrev pub view_of : Client g state p q → View Asked
  view_of c = c.thread.ended.calls.seat.me.0

  abbrev pub tasks_of : Client g state p q → List Task
  tasks_of c = c.thread.tasks

  abbrev pub deeds_of : Client g state p q → List (Deed g state p q)
  deeds_of c = deeds c.thread c.is

  abbrev pub own_of : Client g state p q → List Entry
  own_of c = own_entries c.thread c.is

  -- of a retry that went to a name again
  module _ (c : Client g state p q) (i : ℕ) (r : Retry) (s t : Both) (k : IdLock Asked) (u : Both) (l : Locked state p q r k s u) (w : WentAgain state p q r k u t) (there : get_elem? (deeds_of c) i ≡ some (retries r s t (went_again k u l w))) where
    abbrev went : Deed g state p q
    went = retries r s t (went_again k u l w)

    -- the client noted that the id advanced to its attempt
    pub retry_noted : 0 < advances (id_slot r.id) (id_first r.id) r.attempt (view_of c)
    retry_noted =
        let slot : ℕ = id_slot r.id in let version : ℕ = id_first r.id in
        let whole : slot * 4294967296 + version ≡ r.id = div-add-mod' r.id 4294967296 in
        let counted = term (by_retry (is_retry (slot * 4294967296 + version) r.attempt)) (deeds_of c) i went there in
        let one = pair-at (slot * 4294967296 + version) r.attempt r.id r.attempt (sym whole) refl in
        let few = tried_few c.thread c.is slot version r.attempt (version_low r.id) in omega (arith, counted, one, few)

    -- and it is one of the call of its lock
    pub retry_id : {notes : List (Noted Asked)} → IdLaws q.slots notes → ((j : ℕ) (f : Note Asked → ℕ) → total f (notes_of j (view_of c).notes) ≤ total f (notes_of j notes)) → IsIdOf q.slots notes k.content.operation r.id
    retry_id laws among = lock_id laws r.id r.attempt k s.calls.view (view_of c) u.calls.view l.got (all_at (Knows (view_of c)) (deeds_of c) i went (all_known c.thread c.is) there) among retry_noted

  module _ (all : List (Client g state p q)) (notes : List (Noted Asked)) (have : HaveNotesOf (map view_of all) notes)
      (may : (j : ℕ) (c : Client g state p q) → get_elem? all j ≡ some c → (n : ℕ) × MayMakeAll p q (tasks_of c) n)
      (numbers : (o : ℕ) → total (λ (c : Client g state p q). total (numbered o) (tasks_of c)) all ≤ 1) where
    -- no more were made of an operation's call than it has numbers
    one_made : (o : ℕ) (j : ℕ) (c : Client g state p q) → get_elem? all j ≡ some c → total (makes o) (view_of c).notes ≤ total (numbered o) (tasks_of c)
    one_made o j c at =
        let m = may j c at in
        let a = made_few c.thread c.is o in let b = task_total c.thread c.is (λ (t : Task). call_in o t.op) in let d = own_calls p q o (tasks_of c) m.0 m.1 in omega arith

    few_made : (o : ℕ) → total (makes o) notes ≤ total (λ (c : Client g state p q). total (makes o) (view_of c).notes) all
    few_made o = let a = have.made o in let b = total_map (λ (v : View Asked). total (makes o) v.notes) view_of all in omega arith

    -- one id at most was made for an operation
    pub made_once : (o : ℕ) → total (makes o) notes ≤ 1
    made_once o =
        let a = few_made o in let n = numbers o in
        let b = each_less (λ (c : Client g state p q). total (makes o) (view_of c).notes) (λ (c : Client g state p q). total (numbered o) (tasks_of c)) all (one_made o) in omega arith

  module _ (all : List (Client g state p q)) (notes : List (Noted Asked)) (laws : IdLaws q.slots notes) (have : HaveNotesOf (map view_of all) notes)
      (may : (j : ℕ) (c : Client g state p q) → get_elem? all j ≡ some c → (n : ℕ) × MayMakeAll p q (tasks_of c) n)
      (numbers : (o : ℕ) → total (λ (c : Client g state p q). total (numbered o) (tasks_of c)) all ≤ 1) where
    -- what all noted is among the notes
    all_among : (i : ℕ) (f : Note Asked → ℕ) → total (λ (c : Client g state p q). total f (notes_of i (view_of c).notes)) all ≤ total f (notes_of i notes)
    all_among i f = let a = have.all i f in let b = total_map (λ (v : View Asked). total f (notes_of i v.notes)) view_of all in omega arith

    among : (j : ℕ) (c : Client g state p q) → get_elem? all j ≡ some c → (i : ℕ) (f : Note Asked → ℕ) → total f (notes_of i (view_of c).notes) ≤ total f (notes_of i notes)
    among j c at i f = let a = term (λ (c : Client g state p q). total f (notes_of i (view_of c).notes)) all j c at in let b = all_among i f in omega arith

    -- ## Ids

    -- the operation of an id is one of the plan
    low_id : (o id : ℕ) → IsIdOf q.slots notes o id → o < p.operations
    low_id o id h =
        let a = some_made o id h in let c = few_made all notes have may numbers o in
        let some_ = total_some (λ (c : Client g state p q). total (makes o) (view_of c).notes) all (omega arith) in
        let m = may some_.0 some_.1 some_.2 in let d = one_made all notes have may numbers o some_.0 some_.1 some_.2 in let e = some_.3 in
        low_number p q o (tasks_of some_.1) m.0 m.1 (omega arith)

    -- ## Retries

    -- a deed whose frame has this place index is a retry of an attempt of the operation's call
    pub record IsAgain (l : ℕ) (d : Deed g state p q) : Type 0 where
      pub retry : Retry
      pub own : (f : Retry → ℕ) → by_retry f d ≡ f retry
      pub id : IsIdOf q.slots notes (l / 8) retry.id
      pub attempt : retry.attempt ≡ l % 8

    of_operation : (l o id : ℕ) → o ≡ l / 8 → IsIdOf q.slots notes o id → IsIdOf q.slots notes (l / 8) id
    of_operation l o id e h = subst (λ (x : ℕ). IsIdOf q.slots notes x id) e h

    again : (l j : ℕ) (c : Client g state p q) → get_elem? all j ≡ some c → (i : ℕ) (d : Deed g state p q) → get_elem? (deeds_of c) i ≡ some d → 0 < again_at l d → IsAgain l d
    again l j c at i (operates x by s t a) there some_ = absurd (omega arith)
    again l j c at i (retries r s t (had_ended h)) there some_ = absurd (omega arith)
    again l j c at i (retries r s t (overtaken k u a b)) there some_ = absurd (omega arith)
    again l j c at i (retries r s t (went_again k u lock w)) there some_ =
        let place : 8 * k.content.operation + r.attempt ≡ l = dite (ℕ_discrete (8 * k.content.operation + r.attempt) l) (λ e. e) (λ n. absurd (let z = only-else l (8 * k.content.operation + r.attempt) n in omega arith)) in
        let low = r.low in
        record {
          retry = r;
          own = λ f. refl;
          id = of_operation l k.content.operation r.id (omega (arith, place, low)) (retry_id c i r s t k u lock w there laws (among j c at));
          attempt = omega (arith, place, low);
        }

    again_le : (l : ℕ) (d : Deed g state p q) → again_at l d ≤ 1
    again_le l (operates x by s t a) = omega arith
    again_le l (retries r s t (had_ended h)) = omega arith
    again_le l (retries r s t (overtaken k u a b)) = omega arith
    again_le l (retries r s t (went_again k u a b)) = only_le l (8 * k.content.operation + r.attempt)

    -- each is one of the attempt that this one has
    same_again : (l : ℕ) (e : Deed g state p q) (first : IsAgain l e) (j : ℕ) (c : Client g state p q) → get_elem? all j ≡ some c → (i : ℕ) (d : Deed g state p q) → get_elem? (deeds_of c) i ≡ some d
        → again_at l d ≤ by_retry (is_retry (first.id.slot * 4294967296 + first.id.first) (l % 8)) d
    same_again l e first j c at i d there = dite (ℕ_discrete (again_at l d) 0)
        (λ z. omega arith)
        (λ n.
        let h = again l j c at i d there (omega arith) in
        let same : h.retry.id ≡ first.id.slot * 4294967296 + first.id.first = one_id q.slots notes (l / 8) h.retry.id first.retry.id (made_once all notes have may numbers (l / 8)) h.id first.id ∙ first.id.id_is in
        let one = pair-at (first.id.slot * 4294967296 + first.id.first) (l % 8) h.retry.id h.retry.attempt same h.attempt in
        let own = h.own (is_retry (first.id.slot * 4294967296 + first.id.first) (l % 8)) in
        let few = again_le l d in omega arith)

    -- so there is one at most
    pub again_once : (l : ℕ) → total (λ (c : Client g state p q). total (again_at l) (deeds_of c)) all ≤ 1
    again_once l = dite (ℕ_discrete (total (λ (c : Client g state p q). total (again_at l) (deeds_of c)) all) 0)
        (λ z. omega arith)
        (λ n.
        let c = total_some (λ (c : Client g state p q). total (again_at l) (deeds_of c)) all (omega arith) in
        let d = total_some (again_at l) (deeds_of c.1) c.3 in
        by_first d.1 (again l c.0 c.1 c.2 d.0 d.1 d.2 d.3))
      where
        by_first : (e : Deed g state p q) → IsAgain l e → total (λ (c : Client g state p q). total (again_at l) (deeds_of c)) all ≤ 1
        by_first e first =
            let i : ℕ = first.id.slot in let f : ℕ = first.id.first in let n : ℕ = l % 8 in
            let each = each_less (λ (c : Client g state p q). total (again_at l) (deeds_of c)) (λ (c : Client g state p q). total (is_attempt f n) (notes_of i (view_of c).notes)) all
            (λ j c at. let a = each_less (again_at l) (by_retry (is_retry (i * 4294967296 + f) n)) (deeds_of c) (λ k d there. same_again l e first j c at k d there) in let b = tried_few c.thread c.is i f n first.id.low in omega arith) in
            let a = all_among i (is_attempt f n) in let b = laws.advanced_once i f n first.id.inside in omega arith

    -- ## Messages

    pub once : (l : ℕ) → total (λ (c : Client g state p q). total (at_place l) (own_of c)) all ≤ 1
    once l = dite (ℕ_discrete (l % 8) 0)
        (λ z.
        let a = each_less (λ (c : Client g state p q). total (at_place l) (own_of c)) (λ (c : Client g state p q). total (numbered (l / 8)) (tasks_of c)) all
        (λ j c at. let m = may j c at in let a = own_place c.thread c.is l in let b = none_again c.thread c.is l z in let d = own_labels p q l (tasks_of c) m.0 m.1 in omega arith) in
        let b = numbers (l / 8) in omega arith)
        (λ n.
        let a = each_less (λ (c : Client g state p q). total (at_place l) (own_of c)) (λ (c : Client g state p q). total (again_at l) (deeds_of c)) all
        (λ j c at. let a = own_place c.thread c.is l in let b = no_labels l (tasks_of c) (omega arith) in omega arith) in
        let b = again_once l in omega arith)

    -- each has a place index of the plan
    pub inside : (l j : ℕ) (c : Client g state p q) → get_elem? all j ≡ some c → 0 < total (at_place l) (own_of c) → l < 8 * p.operations
    inside l j c at some_ =
        let a = own_place c.thread c.is l in
        dite (ℕ_discrete (total (again_at l) (deeds_of c)) 0)
        (λ z. let m = may j c at in let d = own_labels p q l (tasks_of c) m.0 m.1 in let e = low_number p q (l / 8) (tasks_of c) m.0 m.1 (omega arith) in omega arith)
        (λ n. let d = total_some (again_at l) (deeds_of c) (omega arith) in let h = again l j c at d.0 d.1 d.2 d.3 in let e = low_id (l / 8) h.retry.id h.id in omega arith)
