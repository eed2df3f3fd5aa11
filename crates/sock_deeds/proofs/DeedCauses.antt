-- Why a deed found the life of a name dead, or no request free, or a life at all.
use Rattle.std.proofs.Common.{◌≡◌, ◌≢◌, ℕ, ◌+◌, ◌%◌, ◌<◌, ◌≤◌, inl, inr, List, [], ◌∷◌, Option, Some, refl, sym, ap, ◌∙◌, subst, arith}
use mathlib.Core.Logic.{dite}
use native.Mathlib.Decide.{ℕ_discrete, dec_lt}
use lib.ListN.{get_elem?}
use Rattle.sock_io.specs.declared.link.Out.{Ghosts}
use Rattle.sock_io.specs.LinkHalves.{OutState}
use Rattle.sock_words.specs.declared.outcome.Outcome.{Outcome}
use Rattle.sock_words.specs.declared.outcome.Outcome.TheVariants as outcome
use Rattle.sock_words.specs.declared.plain.Plan.{Plan}
use Rattle.sock_words.specs.declared.place_word.PlaceWord.{PlaceWord}
use Rattle.sock_words.specs.declared.socket_id.SocketId.{SocketId}
use Rattle.sock_words.specs.declared.vref.Vref.{Vref}
use Rattle.sock_words.specs.PackedWords.{socket_id_version, socket_id_slot, vref_version}
use Rattle.sock_model.specs.declared.marks.Mark.{Mark}
use Rattle.sock_model.specs.declared.marks.Mark.TheVariants.{Saw}
use Rattle.sock_model.specs.declared.view.View.{View}
use Rattle.sock_model.specs.SocketTableLayout.{name_index}
use Rattle.sock_model.specs.SlotRows.{marks_of}
use Rattle.sock_model.specs.MarkWeights.{is_known, is_saw, only}
use Rattle.slot_steps.proofs.RuleNumbers.{only-same}
use Rattle.rpc_client.specs.sock_rule.specs.MarksComeAndGo.{Became as Becomes}
use Rattle.rpc_client.specs.sock_rule.specs.declared.homes.Letter.{Letter}
use Rattle.seat_programs.specs.declared.task.Task.{Task}
use Rattle.seat_programs.specs.Explained.{HasLife}
use Rattle.rpc_client.specs.sock_table.specs.declared.refs.SockRef.{SockRef}
use Rattle.rpc_client.specs.declared.reaching.Reached.TheVariants as reached
use Rattle.rpc_client.specs.FailOutcomes.{TriedTo}
use Rattle.rpc_client.specs.ReachingByName.{ReachedBy}
use Rattle.sock_deeds.specs.Deeds.{SentOver, opens, fails, Deed, own_number}
use Rattle.sock_deeds.specs.SocketTableRun.{DeedRun}
use Rattle.sock_deeds.proofs.DeedsOfAllSeats.{Act, before, after, did_of, has_marks, act_between, same_deed}
use Rattle.sock_deeds.proofs.LivesFailedByName.{here_found, made_born, number_of_fail}
use Rattle.sock_deeds.proofs.WhyLivesFailed.{FailedBy, WhyFailed, life_failed}
use Rattle.sock_deeds.proofs.GrowingSocketNotes.{Grew, HasFound, grew_then, added_grew, back_grew, found_grew, returned_grew, over_grew}
use Rattle.sock_deeds.proofs.LivesOfDeeds.{MadeHere, made_of, found_made, made_inside}
use Rattle.sock_deeds.proofs.DeedsForTasks.{earlier, one_place}
use Rattle.sock_words.specs.Totals.{total}

-- the id was found under the name, and its life is known
found_knows : (p : Plan) (n : ℕ) (sock : SockRef) (v w : View) → ReachedBy p n (reached.Here sock) v w → (socket_id_slot sock.id.0 < p.slots) × (0 < marks_of (is_known (socket_id_version sock.id.0)) (socket_id_slot sock.id.0) w)
found_knows p n sock v w r = let k = r.1.0 in let g = (added_grew (socket_id_slot sock.id.0) r.0 w _ r.2).marks (is_known (socket_id_version sock.id.0)) (λ x. refl) (socket_id_slot sock.id.0) in let y = k.known in (k.inside, omega arith)

saw_there : (i w : ℕ) (v u : View) (others : List Mark) → Becomes i v u (Saw w ∷ others) [] → 0 < marks_of (is_saw w) i u
saw_there i w v u others b =
    let e : marks_of (is_saw w) i u + 0 ≡ marks_of (is_saw w) i v + (only w w + total (is_saw w) others) = b.here (is_saw w) in
    let q = only-same w in omega arith

module _ {O : Type 0} {g : Ghosts O} {state : O → OutState} {p : Plan} {clients : List (List Task)} {outcomes : List (Option Outcome)} {places : List PlaceWord} {vrefs : List Vref} {outs : List O} (run : DeedRun g state p clients outcomes places vrefs outs) where
  -- the deed isn't a `fail` that was answered `failed`
  abbrev pub FailsNone : Act run → Type 0
  FailsNone b = (name number code : ℕ) → did_of run b ≡ fails name number code outcome.Failed → ⊥

  -- the deed saw a later version of this life of the name, with a version of which this holds: it was failed, and where a `fail` of the deed's own client did it, by an earlier operation
  pub record FoundDead (b : Act run) (n : ℕ) (P : ℕ → Type 0) : Type 0 where
    pub link : ℕ
    pub slot : ℕ
    pub version : ℕ
    pub made : MadeHere run n link slot version
    pub holds : P version
    pub why : WhyFailed run slot version link
    pub no_later : (m : ℕ) → own_number (did_of run b) ≡ Some m → (f : FailedBy run slot version link) → f.a.c ≡ b.c → f.life.number < m

  not_later : (b : Act run) → FailsNone b → (id : SocketId) (w : ℕ) → 0 < marks_of (is_saw w) (socket_id_slot id.0) (after run b) → socket_id_version id.0 < w → (k m : ℕ) → own_number (did_of run b) ≡ Some m → (f : FailedBy run (socket_id_slot id.0) (socket_id_version id.0) k) → f.a.c ≡ b.c → f.life.number < m
  not_later b other id w saw less k m mine f client =
      let its = number_of_fail run f.a f.life in
      dite (dec_lt f.life.number m) (λ lt. lt) (λ ge. absurd (dite (ℕ_discrete f.life.number m)
      (λ same. (
      let at = one_place run f.a b m (its ∙ ap Some same) mine in
      other f.life.name f.life.number f.life.code (ap (λ (d : Deed g state p). d.did) (sym (same_deed run f.a b at.0 at.1)) ∙ f.life.did_is)))
      (λ ne. (
      let at = earlier run b f.a m f.life.number (sym client) (omega arith) mine its in
      let grew = act_between run b f.a (sym client) at in
      let t = f.life.tried in
      let also = found_grew (name_index p f.life.name) t.sock.id.0 (before run f.a) t.reached_it.0 t.reached_it.1.1 in
      let here = grew.marks (is_saw w) (λ x. refl) (socket_id_slot id.0) in
      let then = also.marks (is_saw w) (λ x. refl) (socket_id_slot id.0) in
      let none_ = t.reached_it.3 w (subst (λ s. 0 < marks_of (is_saw w) s t.reached_it.0) (sym f.slot) (omega arith)) in
      let v = f.version in omega arith))))

  pub dead : (b : Act run) → FailsNone b → (n : ℕ) → n < p.names → (id : SocketId) (w : ℕ) → socket_id_slot id.0 < p.slots → HasFound record { place = name_index p n; word = id.0 + 1 } (after run b)
      → 0 < marks_of (is_known (socket_id_version id.0)) (socket_id_slot id.0) (after run b) → 0 < marks_of (is_saw w) (socket_id_slot id.0) (after run b) → socket_id_version id.0 < w → (P : ℕ → Type 0) → P (socket_id_version id.0) → FoundDead b n P
  dead b other n named id w low found known saw less P holds =
      let i = socket_id_slot id.0 in
      let h = socket_id_version id.0 in
      let made = found_made run b n id named found in
      let k = has_marks run b (is_known h) (λ x. refl) i in
      let s = has_marks run b (is_saw w) (λ x. refl) i in
      let failed = run.closed.closing.dead_failed i h w low (omega arith) (omega arith) less in
      record {
        link = made.0;
        slot = i;
        version = h;
        made = made.1;
        holds = holds;
        why = elim (life_failed run n made.0 i h low made.1 (omega arith)) [
          | inl why ↦ why
          -- the sockets were ended behind what it saw
          | inr alive ↦ absurd (let e = alive b w saw in omega arith)
        ];
        no_later = λ m mine f client. not_later b other id w saw less made.0 m mine f client;
      }

  -- ## By what it reached

  pub gone_cause : (b : Act run) → FailsNone b → (n : ℕ) → n < p.names → (found : Vref) → ReachedBy p n (reached.Gone found) (before run b) (after run b) → FoundDead b n (λ version. vref_version found.0 ≢ version)
  gone_cause b other n named found r =
      let id = r.0 in
      let u = r.1 in
      let know = r.2.0 in
      let gone = r.3 in
      let i = socket_id_slot id.0 in
      let grew = added_grew i u (after run b) _ gone.became in
      let k = grew.marks (is_known (socket_id_version id.0)) (λ x. refl) i in
      let y = know.known in
      dead b other n named id (vref_version found.0) know.inside
      (grew.finds record { place = name_index p n; word = id.0 + 1 } (0, ap (λ (z : View). get_elem? z.finds 0) r.2.1.view)) (omega arith) (saw_there i (vref_version found.0) u (after run b) gone.notes gone.became) gone.later
      (λ version. vref_version found.0 ≢ version) (λ e. (let l = gone.later in omega arith))

  -- a message that came back since its life was failed
  pub refused_cause : (b : Act run) → FailsNone b → (n : ℕ) → n < p.names → (found : Vref) (msg : Letter) → SentOver state p n msg (Some (outcome.Gone found)) (before run b) (after run b) → FoundDead b n (λ version. vref_version found.0 ≢ version)
  refused_cause b other n named found msg s =
      let id = s.sock.id in
      let i = socket_id_slot id.0 in
      let r = found_knows p n s.sock (before run b) s.has s.reached_it in
      let d = s.delivered in
      let is = d.refused_by.2 in
      let grew = over_grew state p n msg (Some (outcome.Gone found)) (before run b) (after run b) s in
      let back = returned_grew id.0 d.refused_at (after run b) d.returned in
      let saw = saw_there i (vref_version found.0) s.addressed d.refused_at [] d.refused_by.3 in
      let m = back.marks (is_saw (vref_version found.0)) (λ x. refl) i in
      let k = grew.marks (is_known (socket_id_version id.0)) (λ x. refl) i in
      let y = r.1 in
      dead b other n named id (vref_version found.0) r.0
      (grew.finds record { place = name_index p n; word = id.0 + 1 } (here_found p n s.sock (before run b) s.has s.reached_it)) (omega arith) (omega arith) (omega arith)
      (λ version. vref_version found.0 ≢ version) (λ e. omega arith)

  -- a `fail` that came too late
  pub already_cause : (b : Act run) → FailsNone b → (n : ℕ) → n < p.names → (found : Vref) (code : ℕ) → TriedTo p n code (outcome.Already found) (before run b) (after run b) → FoundDead b n (λ version. vref_version found.0 % 2 ≡ 1)
  already_cause b other n named found code t =
      let id = t.sock.id in
      let i = socket_id_slot id.0 in
      let h = socket_id_version id.0 in
      let r = found_knows p n t.sock (before run b) t.has t.reached_it in
      let is = t.set_by.0 in
      let set = added_grew i t.has t.set _ t.set_by.1 in
      let back = back_grew i h t.set (after run b) t.ended t.back in
      let grew = grew_then t.has t.set (after run b) set back in
      let saw = saw_there i (vref_version found.0) t.has t.set [] t.set_by.1 in
      let m = back.marks (is_saw (vref_version found.0)) (λ x. refl) i in
      let k = grew.marks (is_known h) (λ x. refl) i in
      let y = r.1 in
      let seen = grew.finds record { place = name_index p n; word = id.0 + 1 } (here_found p n t.sock (before run b) t.has t.reached_it) in
      let made = found_made run b n id named seen in
      let even = (run.closed.closing.born_life i h r.0 (made_born run n made.0 i h made.1)).1 in
      dead b other n named id (vref_version found.0) r.0 seen (omega arith) (omega arith) (omega arith)
      (λ version. vref_version found.0 % 2 ≡ 1) (omega arith)

  -- ## Sockets that were found or made

  pub has_life : (b : Act run) (n : ℕ) → n < p.names → (sock : SockRef) (u : View) → ReachedBy p n (reached.Here sock) (before run b) u → Grew u (after run b) → HasLife clients outcomes n
  has_life b n named sock u r grew =
      let made = found_made run b n sock.id named (grew.finds record { place = name_index p n; word = sock.id.0 + 1 } (here_found p n sock (before run b) u r)) in
      (made.0, socket_id_slot sock.id.0, socket_id_version sock.id.0, made.1)

  pub opened_cause : (b : Act run) (n number k slot version : ℕ) → did_of run b ≡ opens n number k (outcome.Opened slot version k) → (slot < p.slots) × (version % 2 ≡ 0) × (p.first ≤ version)
  opened_cause b n number k slot version e =
      let made = made_of run b n number k slot version e in
      let low = made_inside run n k slot version made in
      let life = run.closed.closing.born_life slot version low (made_born run n k slot version made) in
      (low, life.1, life.0)
