-- A client's own list of accepted messages has those of its deeds, in their order; and each operation of the client is one of its deeds.
use Rattle.std.proofs.Common.{◌≡◌, ℕ, zero, suc, ◌+◌, ◌<◌, List, [], ◌∷◌, ◌++◌, length, drop, flat_map, append_assoc, append-nil, refl, sym, ap, ◌∙◌, subst, arith}
use Rattle.std.specs.Prelude.{Option, Some, None}
use Rattle.std.proofs.lemmas.Option.{same_Some}
use Rattle.std.proofs.lemmas.List.{drop_all}
use mathlib.Core.Logic.{dite}
use mathlib.Core.Option.{some, some-injective}
use native.Mathlib.Decide.{ℕ_discrete}
use lib.ListN.{get_elem?}
use Rattle.sock_io.specs.declared.link.Out.{Ghosts}
use Rattle.sock_io.specs.LinkHalves.{OutState}
use Rattle.sock_words.specs.declared.outcome.Outcome.{Outcome}
use Rattle.sock_words.specs.declared.plain.Plan.{Plan}
use Rattle.sock_model.specs.declared.chain.Entry.{Entry}
use Rattle.sock_model.specs.declared.view.View.{View}
use Rattle.sock_model.specs.ViewsOfSplitSeats.{newcomer}
use Rattle.seat_programs.specs.declared.task.Task.{Task}
use Rattle.corr_core.specs.declared.marks.Plan as id_plan
use Rattle.call_run.specs.call_client.specs.rpc_client.specs.declared.acting.Told.{Told}
use Rattle.call_run.specs.call_client.specs.rpc_client.specs.ToldOfOperation.{telling}
use Rattle.call_run.specs.call_client.specs.call_attempts.specs.ClientAtBothTables.{Both}
use Rattle.call_run.specs.call_client.specs.call_attempts.specs.WaitingRetries.{without_oldest}
use Rattle.call_run.specs.call_client.specs.ClientBetweenOperations.{Stand, stand, both_of, Acted}
use Rattle.call_run.specs.call_client.specs.ClientRun.{Course, Ran, begins, LeftAll}
use Rattle.call_run.specs.Threads.{Thread, IsThread}
use Rattle.sock_deeds.proofs.Flats.{append_first, append_later, flat-append}
use Rattle.call_places.specs.DeedsOfCallClient.{Deed, operates, retries, retries_of, ran_deeds, deeds, entries_of, own_entries}
use Rattle.call_places.proofs.Walks.{Walks, run_walk}
use Rattle.call_places.proofs.AcceptedMessageLists.{Grown, grown_none, waited_lists, gave_lists, retry_grows, acted_grows}
use Rattle.sock_deeds.proofs.ListPlaces.{place_low}

grown_then : (es fs : List Entry) (u v w : View) → Grown es u v → Grown fs v w → Grown (es ++ fs) u w
grown_then es fs u v w a b l ls is = b (l ++ es) ls (a l ls is) ∙ ap (λ x. x ∷ ls) (append_assoc l es fs)

grown_as : (es fs : List Entry) (v w : View) → es ≡ fs → Grown es v w → Grown fs v w
grown_as es fs v w e = subst (λ l. Grown l v w) e

-- the operation that is told behind these
told_last : (number : ℕ) (by : Option Outcome) (told : List Told) (o : Outcome) → by ≡ Some o → (i : ℕ) × (get_elem? (told ++ telling number by) i ≡ some (record { number = number; outcome = o }))
told_last number None told o e = absurd (cc)
told_last number (Some x) told o e =
    let of : Outcome → Told = λ y. record { number = number; outcome = y } in
    (length told + 0, append_later told (of x ∷ []) 0 (of o) (ap (λ (y : Outcome). some (of y)) (same_Some x o e)))

module _ {O : Type 0} (g : Ghosts O) (state : O → OutState) (p : Plan) (q : id_plan.Plan) where
  -- by these deeds
  abbrev GrownBy : List (Deed g state p q) → View → View → Type 0
  GrownBy ds v w = Grown (flat_map entries_of ds) v w

  by_then : (ds es : List (Deed g state p q)) (u v w : View) → GrownBy ds u v → GrownBy es v w → GrownBy (ds ++ es) u w
  by_then ds es u v w a b = grown_as (flat_map entries_of ds ++ flat_map entries_of es) (flat_map entries_of (ds ++ es)) u w (sym (flat-append entries_of ds es)) (grown_then (flat_map entries_of ds) (flat_map entries_of es) u v w a b)

  by_one : (d : Deed g state p q) (v w : View) → Grown (entries_of d) v w → GrownBy (d ∷ []) v w
  by_one d v w a = grown_as (entries_of d) (flat_map entries_of (d ∷ [])) v w (sym (append-nil (entries_of d))) a

  all_grow : (xs : List Task) → Walks state p q xs (λ ds s t. GrownBy ds s.socks t.socks)
  all_grow xs = record {
    none = λ s t e. grown_none s.socks t.socks (ap (λ (y : Both). y.socks.lists) e);
    in_turn = λ ds es s u t. by_then ds es s.socks u.socks t.socks;
    retry = λ u t r rest waits by. by_one (retries r (without_oldest rest u) t by) u.socks t.socks (retry_grows state p q r (without_oldest rest u) t by);
    operation = λ n x at by s t a. by_one (operates x by s t a) s.me.0 t.me.0 (acted_grows state p q x.number x.op by s t a);
  }

  pub record Making (x : Task) : Type 0 where
    pub by : Option Outcome
    pub before : Stand g
    pub after : Stand g
    pub acted : Acted state p q x.number x.op by before after

  -- the task was made, as one of these deeds, and its outcome is told
  pub record IsMade (ds : List (Deed g state p q)) (told : List Told) (x : Task) : Type 0 where
    pub place : ℕ
    pub how : Making x
    pub there : get_elem? ds place ≡ some (operates x how.by how.before how.after how.acted)
    pub tells : (o : Outcome) → how.by ≡ Some o → (i : ℕ) × (get_elem? told i ≡ some (record { number = x.number; outcome = o }))

  made_first : (ds es : List (Deed g state p q)) (told more : List Told) (x : Task) → IsMade ds told x → IsMade (ds ++ es) (told ++ more) x
  made_first ds es told more x m = record {
    place = m.place;
    how = m.how;
    there = append_first ds es m.place _ m.there;
    tells = λ o e. (let i = m.tells o e in (i.0, append_first told more i.0 _ i.1));
  }

  made_now : (ds waited : List (Deed g state p q)) (told : List Told) (x : Task) (by : Option Outcome) (s t : Stand g) (a : Acted state p q x.number x.op by s t) → IsMade (ds ++ (waited ++ operates x by s t a ∷ [])) (told ++ telling x.number by) x
  made_now ds waited told x by s t a = let now : Deed g state p q = operates x by s t a in record {
    place = length ds + (length waited + 0);
    how = record { by = by; before = s; after = t; acted = a };
    there = append_later ds (waited ++ now ∷ []) (length waited + 0) now (append_later waited (now ∷ []) 0 now refl);
    tells = told_last x.number by told;
  }

  ran_made : (xs : List Task) (n : ℕ) (s t : Course g) (h : Ran state p q xs n s t) (k : ℕ) (x : Task) → k < n → get_elem? xs k ≡ some x → IsMade (ran_deeds state p q xs n s t h) t.told x
  ran_made xs zero s t e k x low at = absurd (omega arith)
  ran_made xs (suc n) s t h k x low at =
      let m = h.4 in
      let waited : List (Deed g state p q) = retries_of state p q (both_of h.0.has) (both_of m.ready) m.retried.all.retried in
      let earlier : List (Deed g state p q) = ran_deeds state p q xs n s h.0 h.2 in
      let now : Deed g state p q = operates h.1 m.by m.ready t.has m.acted in
      subst (λ (l : List Told). IsMade (earlier ++ (waited ++ now ∷ [])) l x) (sym m.told)
      (dite (ℕ_discrete k n)
      (λ e. let same : h.1 ≡ x = some-injective h.1 x (sym h.3 ∙ (ap (get_elem? xs) (sym e) ∙ at)) in
      subst (IsMade (earlier ++ (waited ++ now ∷ [])) (h.0.told ++ telling h.1.number m.by)) same (made_now earlier waited h.0.told h.1 m.by m.ready t.has m.acted))
      (λ ne. made_first earlier (waited ++ now ∷ []) h.0.told (telling h.1.number m.by) x (ran_made xs n s h.0 h.2 k x (omega (arith, low, ne)) at)))

-- ## A whole run

module _ {O : Type 0} {g : Ghosts O} {state : O → OutState} {p : Plan} {q : id_plan.Plan} {first : ℕ} (x : Thread g) (th : IsThread state p q first x) where
  -- where it had come by all its operations
  abbrev pub came : Course g
  came = record { has = stand th.ran.came; told = th.ran.came.outcomes.items; names = th.ran.ran.names }

  all_made : drop th.ran.made x.tasks ≡ []
  all_made = let n = th.ran.ends.0 in drop_all th.ran.made x.tasks (omega arith)

  left_none : (s t : Stand g) (ts : List Task) → ts ≡ [] → LeftAll p ts s t → t ≡ s
  left_none s t ts e h = subst (λ (l : List Task). LeftAll p l s t) e h

  -- no operation was left
  pub end_is : th.ran.end ≡ th.ran.last
  end_is = left_none th.ran.last th.ran.end (drop th.ran.made x.tasks) all_made th.ran.left

  pub own_list : x.ended.seat.me.0.lists ≡ own_entries x th ∷ []
  own_list =
      let before = waited_lists p x.names (newcomer p [] th.spare) x.began.seat.me.0 th.waited in
      let behind = gave_lists th.ran.end.held _ th.ran.end.me.0 x.ended.seat.me.0 th.ran.given in
      behind ∙ (ap (λ (s : Stand g). s.me.0.lists) end_is ∙ run_walk x th (all_grow g state p q x.tasks) [] [] before)

  -- each of its tasks is one of its deeds
  pub deed_of : (k : ℕ) (t : Task) → get_elem? x.tasks k ≡ some t → IsMade g state p q (deeds x th) x.ended.outcomes.items t
  deed_of k t at =
      let low = place_low x.tasks k t at in let n = th.ran.ends.0 in
      let last : List (Deed g state p q) = retries_of state p q (both_of (stand th.ran.came)) (both_of th.ran.last) th.ran.ends.1.all.retried in
      let all : List (Deed g state p q) = ran_deeds state p q x.tasks th.ran.made (begins x.began) came th.ran.ran.ran ++ last in
      let told : th.ran.came.outcomes.items ++ [] ≡ x.ended.outcomes.items = append-nil th.ran.came.outcomes.items ∙ sym (ap (λ v. v.items) th.ran.told) in
      subst (λ (l : List Told). IsMade g state p q all l t) told
      (made_first g state p q (ran_deeds state p q x.tasks th.ran.made (begins x.began) came th.ran.ran.ran) last th.ran.came.outcomes.items [] t
      (ran_made g state p q x.tasks th.ran.made (begins x.began) came th.ran.ran.ran k t (omega arith) at))
