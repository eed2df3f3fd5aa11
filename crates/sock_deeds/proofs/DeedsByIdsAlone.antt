-- What is done by ids alone stores nothing and sends nothing; of a life it can only be that it fails it.
use Rattle.std.proofs.Common.{◌≡◌, ℕ, suc, ◌<◌, List, [], ◌∷◌, refl, sym, ap, ◌∙◌, subst, arith}
use mathlib.Core.Logic.{dite}
use native.Mathlib.Decide.{dec_lt}
use mathlib.Core.Option.{some, some-ne-none}
use lib.ListN.{get_elem?}
use Rattle.sock_io.specs.declared.link.Out.{Ghosts}
use Rattle.sock_io.specs.LinkHalves.{OutState}
use Rattle.sock_words.specs.declared.plain.Plan.{Plan}
use Rattle.sock_words.specs.PackedWords.{socket_id_version, socket_id_slot}
use Rattle.sock_model.specs.declared.marks.Mark.{Mark}
use Rattle.sock_model.specs.declared.marks.Mark.TheVariants.{Failer}
use Rattle.sock_model.specs.declared.view.View.{View}
use Rattle.sock_model.specs.SlotRows.{marks_of}
use Rattle.sock_model.specs.MarkWeights.{is_saw}
use Rattle.slot_steps.proofs.RuleNumbers.{only_is}
use Rattle.rpc_client.specs.sock_table.specs.ReferenceAnswers.{Held as HeldOne, NoneLater}
use Rattle.rpc_client.specs.sock_table.specs.NamesStoredAndFound.{NotedAs}
use Rattle.rpc_client.specs.sock_table.specs.declared.finding.Noted.{Noted}
use Rattle.rpc_client.specs.sock_table.specs.declared.finding.Noted.TheVariants as noteds
use Rattle.rpc_client.proofs.FindingReferences.{set_others}
use Rattle.sock_deeds.specs.Deeds.{Hand, Did, looks, takes, misses, sets, returns, DoneBy, Deed, Chain}
use Rattle.sock_deeds.specs.BrokenLinksNoted.{faults_by}
use Rattle.sock_deeds.specs.SocketTableRun.{IsById}
use Rattle.sock_deeds.proofs.Sources.{IsOfLife, Source, by_open, by_fail, by_set, by_write, done_source}

-- ## What stays

-- the messages that were accepted, and the words that were stored
abbrev pub Keeps : View → View → Type 0
Keeps v w = (w.lists ≡ v.lists) × (w.stores ≡ v.stores)

others_kept : (v w : View) → w ≡ record v { marks = w.marks } → Keeps v w
others_kept v w e = (ap (λ (y : View). y.lists) e, ap (λ (y : View). y.stores) e)

looked_kept : (p : Plan) (number : ℕ) (n : Noted) (v w : View) → NotedAs p number n v w → Keeps v w
looked_kept p number noteds.NotYet v w b = (ap (λ (y : View). y.lists) b.0, ap (λ (y : View). y.stores) b.0)
looked_kept p number noteds.Nothing v w b = (ap (λ (y : View). y.lists) b.view, ap (λ (y : View). y.stores) b.view)
looked_kept p number (noteds.Id id) v w b = (ap (λ (y : View). y.lists) b.1.view, ap (λ (y : View). y.stores) b.1.view)

module _ {O : Type 0} (g : Ghosts O) (state : O → OutState) (p : Plan) where
  pub id_kept : (d : Did) (s t : Hand) → IsById d → DoneBy g state p d s t → Keeps s.view t.view
  id_kept (looks number n) s t is b = looked_kept p number n s.view t.view b.0
  id_kept (takes id) s t is b = others_kept s.view t.view b.1.others
  id_kept (misses id found) s t is b = others_kept s.view t.view b.0.became.others
  id_kept (sets id code by) s t is b = others_kept s.view t.view (set_others id code by s.view t.view b.0)
  id_kept (returns id) s t is b = others_kept s.view t.view b.0.back.became.others
  id_kept _ s t is b = elim is [ ]

  -- one deed after the other
  pub ids_kept : (ds : List (Deed g state p)) (s t : Hand) → Chain g state p ds s t → ((k : ℕ) (d : Deed g state p) → get_elem? ds k ≡ some d → IsById d.did) → Keeps s.view t.view
  ids_kept [] s t c are = (ap (λ (h : Hand). h.view.lists) c, ap (λ (h : Hand). h.view.stores) c)
  ids_kept (d ∷ ds) s t c are =
      let first = id_kept d.did d.before d.after (are 0 d refl) d.done in
      let rest = ids_kept ds d.after t c.1 (λ k e at. are (suc k) e at) in
      (rest.0 ∙ (first.0 ∙ ap (λ (h : Hand). h.view.lists) c.0), rest.1 ∙ (first.1 ∙ ap (λ (h : Hand). h.view.stores) c.0))

  -- ## Lives

  pub no_faults : (d : Did) (s t : Hand) (b : DoneBy g state p d s t) → IsById d → faults_by g state p d s t b ≡ []
  no_faults (looks number n) s t b is = refl
  no_faults (takes id) s t b is = refl
  no_faults (misses id found) s t b is = refl
  no_faults (sets id code by) s t b is = refl
  no_faults (returns id) s t b is = refl
  no_faults _ s t b is = elim is [ ]

  -- a life of this slot was set failed, of which no later version had been seen
  pub record SetNow (f : Mark → ℕ) (i : ℕ) (v : View) : Type 0 where
    pub id : ℕ
    pub slot : socket_id_slot id ≡ i
    pub weighs : 0 < f (Failer (socket_id_version id))
    pub live : NoneLater id v

  pub id_source : (f : Mark → ℕ) (z : IsOfLife f) (d : Did) (s t : Hand) (b : DoneBy g state p d s t) (i : ℕ) → IsById d → marks_of f i s.view < marks_of f i t.view → SetNow f i s.view
  id_source f z d s t b i is more_ = by_source (done_source f z g state p d s t b i more_)
    where
      by_source : Source f z g state p i d s t b → SetNow f i s.view
      by_source (by_open name number version link e weighs) = absurd (subst IsById e is)
      by_source (by_fail name number code e l) = absurd (subst IsById e is)
      by_source (by_set id code e slot weighs) = record { id = id; slot = slot; weighs = weighs; live = (subst (λ (x : Did). DoneBy g state p x s t) e b).2 }
      by_source (by_write id v w all grew fail listed) = absurd (some-ne-none fail.link (sym (ap (λ l. get_elem? l fail.place) (sym (no_faults d s t b is)) ∙ listed)))

-- whoever takes a reference to the life of an id saw no version behind the id's before, and sees none by that
pub still_none_later : (id : ℕ) (v w : View) → HeldOne id v w → NoneLater id v → NoneLater id w
still_none_later id v w held live x saw = dite (dec_lt 0 (marks_of (is_saw x) (socket_id_slot id) v))
    (λ lt. live x lt)
    (λ ge. let h = held.here (is_saw x) in let same = only_is x (socket_id_version id) (omega arith) in omega arith)
