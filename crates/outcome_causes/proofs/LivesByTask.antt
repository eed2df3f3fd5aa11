-- Lives that were made and failed, and the tasks that did so.
use Rattle.std.proofs.Common.{◌≡◌, ℕ, ◌+◌, ◌*◌, ◌%◌, ◌<◌, ◌≤◌, List, [], ◌∷◌, inl, inr, ⊎_elim, cond, eq-eqb, sym, refl, ap, ◌∙◌, subst, arith}
use Rattle.std.specs.Prelude.{Option, Some, slice_get}
use Rattle.sock_words.specs.PackedWords.{socket_id, socket_id_version, socket_id_slot, vref_version}
use Rattle.sock_words.specs.declared.plain.Plan.{Plan}
use Rattle.sock_words.specs.declared.outcome.Outcome.{Outcome}
use Rattle.sock_words.specs.declared.outcome.Outcome.TheVariants.{Opened, Failed, Already}
use Rattle.sock_model.specs.MarkWeights.{is_born, is_failer, is_tried}
use Rattle.seat_programs.specs.declared.task.Op.TheVariants as ops
use Rattle.seat_programs.specs.declared.task.Task.{Task}
use Rattle.seat_programs.specs.TableSteps.{OnSlot, OnName, OnChain, CreateLife, AddRef, SetOdd, StoreName, LoadName, FindLink, ClaimRequest}
use Rattle.seat_programs.specs.Programs.{fail_outcome}
use Rattle.seat_programs.specs.Explained.{AreTasks, IsTask, Made, IsFail}
use Rattle.seat_programs.specs.ExplainedCalls.{Order, all_accepted}
use Rattle.outcome_ticks.specs.outcome_stories.specs.OperationStories.{Entry, Event, In, trace_of, last_name, added_by, marked}
use Rattle.outcome_ticks.specs.outcome_stories.specs.Explains.{Because, IsExplainedBy, Tells, TellsFail, FailsLife, FailsLink, holds, step}
use Rattle.outcome_ticks.specs.outcome_stories.specs.StoryStepCauses.{Asks, OddAt, WasGiven, Cause, Good}
use Rattle.outcome_ticks.specs.outcome_stories.proofs.Members.{all_in, in_contains, contains_in, from_trace, to_trace}
use Rattle.outcome_ticks.proofs.EventsOfGoodStory.{event, once, birth_adds, fail_adds, marked_given, given_by, BeforeIn, cause_of, last_some}
use Rattle.outcome_causes.proofs.Final.{Final, one_said}
use Rattle.outcome_ticks.proofs.Writers.{add_holds}
use Rattle.outcome_ticks.proofs.TableTasksDistinct.{one_link}

-- what is known in the end
pub record World (p : Plan) (clients : List (List Task)) (outcomes : List (Option Outcome)) (broken : List ℕ) (orders : ℕ → Order) (es : List Event) : Type 0 where
  pub are : AreTasks p clients
  pub few : p.slots ≤ 256
  pub good : Good p clients broken es
  pub final : (c : ℕ) (t : Task) → Asks clients c t → Final p.slots p.requests clients es outcomes c t
  pub born_once : (j : ℕ) → j < p.slots → (h : ℕ) → marked (is_born h) j es ≤ 1
  pub failed_once : (j : ℕ) → j < p.slots → (h : ℕ) → marked (is_failer h) j es ≤ 1
  -- a slot that was found taken had a life
  pub tried_born : (j : ℕ) → j < p.slots → 0 < marked is_tried j es → 0 < marked (is_born p.first) j es
  -- where each request was found claimed, so many messages were accepted
  pub full : ((q : ℕ) → q < p.requests → (c o id found : ℕ) × In (event c o (OnChain (ClaimRequest id q)) found) es × (found % 2 ≡ 1)) → p.requests ≤ all_accepted p.links orders

module _ (p : Plan) (clients : List (List Task)) (outcomes : List (Option Outcome)) (broken : List ℕ) (orders : ℕ → Order) (es : List Event) (world : World p clients outcomes broken orders es) where
  pub task_of : (c : ℕ) (t : Task) → Asks clients c t → IsTask clients outcomes c t
  task_of c t a = (a.0, a.1, in_contains a.0 t a.2)

  pub asks_of : (c : ℕ) (t : Task) → IsTask clients outcomes c t → Asks clients c t
  asks_of c t a = (a.0, a.1, contains_in a.0 t a.2)

  before : (e : Event) → In e es → BeforeIn p clients broken es e
  before e m = cause_of p clients broken es world.good e m

  -- a step of a task tells its outcome
  pub tells_of : (c : ℕ) (t : Task) → (a : Asks clients c t) → (x : Entry) → In x (trace_of c t.number es) → Tells t.op (world.final c t a).outcome x
  tells_of c t a x m = all_in (Tells t.op (world.final c t a).outcome) (trace_of c t.number es) x (world.final c t a).tells m

  -- an `open` that made a life says so
  made_of : (c : ℕ) (t : Task) → Asks clients c t → (n k i found : ℕ) → t.op ≡ ops.Open n k → In (step (OnSlot (CreateLife i k)) found) (trace_of c t.number es) → Made clients outcomes n k i (vref_version found)
  made_of c t a n k i found e m = let f = world.final c t a in let q = tells_of c t a (step (OnSlot (CreateLife i k)) found) m in
      record { client = c; task = t; is = task_of c t a; op = e; became = f.became ∙ ap (λ (o : Option Outcome). Some o) q }

  pub birth_made : (c o i k found : ℕ) → In (event c o (OnSlot (CreateLife i k)) found) es → (n : ℕ) × Made clients outcomes n k i (vref_version found)
  birth_made c o i k found m = let b = (before (event c o (OnSlot (CreateLife i k)) found) m).cause in let f = b.fits in
      (f.0, made_of c b.task b.is f.0 k i found f.1 (subst (λ z. In (step (OnSlot (CreateLife i k)) found) (trace_of c z es)) (sym b.numbered) (to_trace es (event c o (OnSlot (CreateLife i k)) found) m)))

  pub birth_means : (c o i k found : ℕ) → In (event c o (OnSlot (CreateLife i k)) found) es → (i < p.slots) × (vref_version found % 2 ≡ 0) × (p.first ≤ vref_version found)
  birth_means c o i k found m = (before (event c o (OnSlot (CreateLife i k)) found) m).cause.means

  parts_of : (id v i : ℕ) → i < p.slots → id + 1 ≡ socket_id v i + 1 → (i ≡ socket_id_slot id) × (v ≡ socket_id_version id)
  parts_of id v i l e = let f = world.few in let q : id ≡ v * 4294967296 + i = omega arith in (omega arith, omega arith)

  -- the id under a name is that of a life of the name
  pub named_life : (c o n id : ℕ) → In (event c o (OnName (LoadName n)) (id + 1)) es → (k : ℕ) × Made clients outcomes n k (socket_id_slot id) (socket_id_version id)
  named_life c o n id m = let b = before (event c o (OnName (LoadName n)) (id + 1)) m in let w : id + 1 ≡ last_name n b.story = b.cause.means in
      let s = last_some b.story n (λ z. omega arith) in
      of_store s.0 s.1 s.2 (b.part (event s.0 s.1 (OnName (StoreName n (last_name n b.story))) s.2) s.3) w
    where
      of_store : {w : ℕ} (c o found : ℕ) → In (event c o (OnName (StoreName n w)) found) es → id + 1 ≡ w → (k : ℕ) × Made clients outcomes n k (socket_id_slot id) (socket_id_version id)
      of_store {w} c o found m e = let b = before (event c o (OnName (StoreName n w)) found) m in let f = b.cause.fits in let k : ℕ = f.0 in let i : ℕ = f.1 in let word : ℕ = f.2 in
          let birth : In (event c o (OnSlot (CreateLife i k)) word) es = b.part (event c o (OnSlot (CreateLife i k)) word) (from_trace c o b.story (step (OnSlot (CreateLife i k)) word) f.4) in
          let made = made_of c b.cause.task b.cause.is n k i word f.3 (subst (λ z. In (step (OnSlot (CreateLife i k)) word) (trace_of c z es)) (sym b.cause.numbered) (to_trace es (event c o (OnSlot (CreateLife i k)) word) birth)) in
          let parts = parts_of id (vref_version word) i (birth_means c o i k word birth).0 (e ∙ f.5) in
          (k, subst (λ z. Made clients outcomes n k (socket_id_slot id) z) parts.1 (subst (λ z. Made clients outcomes n k z (vref_version word)) parts.0 made))

  -- a life that was made has its step
  pub made_event : (n k slot version : ℕ) (a : Made clients outcomes n k slot version) → (found x : ℕ) × In (event a.client a.task.number (OnSlot (CreateLife slot k)) found) es × (vref_version found ≡ version)
      × In (event a.client a.task.number (OnName (StoreName n (socket_id version slot + 1))) x) es
  made_event n k slot version a = let asks = asks_of a.client a.task a.is in let f = world.final a.client a.task asks in
      let q : f.outcome ≡ Some (Opened slot version k) = one_said (slice_get outcomes a.task.number) f.outcome (Some (Opened slot version k)) f.became a.became in
      let x : IsExplainedBy p.slots p.requests f.before (trace_of a.client a.task.number es) a.task.op (Some (Opened slot version k)) = subst (IsExplainedBy p.slots p.requests f.before (trace_of a.client a.task.number es) a.task.op) q f.explained in
      let b : Because p.slots p.requests f.before (trace_of a.client a.task.number es) (ops.Open n k) (Opened slot version k) = subst (λ z. Because p.slots p.requests f.before (trace_of a.client a.task.number es) z (Opened slot version k)) a.op x.0 in
      (b.1, b.2, from_trace a.client a.task.number es (step (OnSlot (CreateLife slot k)) b.1) b.3, sym b.4, from_trace a.client a.task.number es (step (OnName (StoreName n (socket_id version slot + 1))) b.2) b.5)

  -- a life was made once
  pub one_life : (n m k l slot version : ℕ) (a : Made clients outcomes n k slot version) (b : Made clients outcomes m l slot version) → (a.task.number ≡ b.task.number) × (k ≡ l)
  one_life n m k l slot version a b = let x = made_event n k slot version a in let y = made_event m l slot version b in
      let ex : Event = event a.client a.task.number (OnSlot (CreateLife slot k)) x.0 in let ey : Event = event b.client b.task.number (OnSlot (CreateLife slot l)) y.0 in
      let inside = (birth_means a.client a.task.number slot k x.0 x.2).0 in
      let same : ex ≡ ey = once (λ (e : Event). added_by (is_born version) slot e) es ex ey (world.born_once slot inside version) x.2 y.2
      (birth_adds a.client a.task.number slot k x.0 version x.3) (birth_adds b.client b.task.number slot l y.0 version y.3) in
      let calls : OnSlot (CreateLife slot k) ≡ OnSlot (CreateLife slot l) = ap (λ (e : Event). e.entry.call) same in (ap (λ (e : Event). e.number) same, cc)

  -- a life that was made with a link has it, and a name
  pub given_made : (j h k : ℕ) → WasGiven es j h k → (n : ℕ) × Made clients outcomes n k j h
  given_made j h k given = let g = marked_given es j h k given in let m = birth_made g.0 g.1 j k g.2 g.3 in (m.0, subst (λ z. Made clients outcomes m.0 k j z) g.4 m.1)

  -- ## Lives that were failed

  -- a step that failed a life, for this operation, and the link of the life
  pub record FailOf (xs : List Event) (f : ℕ × ℕ) : Type 0 where
    pub client : ℕ
    pub slot : ℕ
    pub found : ℕ
    pub is : In (event client f.0 (OnSlot (SetOdd slot)) found) xs
    pub even : vref_version found % 2 ≡ 0
    pub name : ℕ
    pub code : ℕ
    pub task : Task
    pub asks : Asks clients client task
    pub numbered : task.number ≡ f.0
    pub op : task.op ≡ ops.Fail name code
    pub life : Made clients outcomes name f.1 slot (vref_version found)

  -- what a step of a `fail` that sets a life failed means, behind the part s of the story
  pub record OddMeans (few : List ℕ) (s : List Event) (c o i found : ℕ) (task : Task) : Type 0 where
    pub name : ℕ
    pub code : ℕ
    pub id : ℕ
    pub op : task.op ≡ ops.Fail name code
    pub load : In (event c o (OnName (LoadName name)) (id + 1)) es
    pub slot : i ≡ socket_id_slot id
    pub odd : OddAt few s i (socket_id_version id) found
    -- no step for the operation before it did so
    pub first : (j word : ℕ) → In (step (OnSlot (SetOdd j)) word) (trace_of c o s) → ⊥

  -- and what that of a `send` means, whose link is one of these, which failed
  pub record LinkMeans (few : List ℕ) (s : List Event) (i found : ℕ) (task : Task) : Type 0 where
    pub name : ℕ
    pub bytes : List ℕ
    pub op : task.op ≡ ops.Send name bytes
    pub id : ℕ
    pub link : ℕ
    pub refused : In link few
    pub slot : i ≡ socket_id_slot id
    pub odd : OddAt few s i (socket_id_version id) found
    pub given : WasGiven es i (socket_id_version id) link

  pub odd_means : (few : List ℕ) (s : List Event) (c o i found : ℕ) → (cause : Cause p clients few s (event c o (OnSlot (SetOdd i)) found)) → ((x : Event) → In x s → In x es) → FailsLife cause.task.op (trace_of c o s) i → OddMeans few s c o i found cause.task
  odd_means few s c o i found cause part f = let n : ℕ = f.0 in let id : ℕ = f.2 in let word : ℕ = f.3 in
      let tr : List Entry = step (OnSlot (AddRef id)) word ∷ step (OnName (LoadName n)) (id + 1) ∷ [] in
      let load : In (event c o (OnName (LoadName n)) (id + 1)) s = from_trace c o s (step (OnName (LoadName n)) (id + 1)) (subst (In (step (OnName (LoadName n)) (id + 1))) (sym f.5) (inr (inl refl))) in
      let held : 0 < holds i (socket_id_version id) (trace_of c o s) = subst (λ z. 0 < holds z (socket_id_version id) (trace_of c o s)) (sym f.7)
      (subst (λ z. 0 < holds (socket_id_slot id) (socket_id_version id) z) (sym f.5) (let a : holds (socket_id_slot id) (socket_id_version id) tr ≡ 1 + 0 = add_holds id word 0 f.6 in omega (arith, a))) in record {
        name = n;
        code = f.1;
        id = id;
        op = f.4;
        load = part (event c o (OnName (LoadName n)) (id + 1)) load;
        slot = f.7;
        odd = cause.means (socket_id_version id) held;
        first = λ j w k. ⊎_elim (λ e. let a : OnSlot (SetOdd j) ≡ OnSlot (AddRef id) = ap (λ (y : Entry). y.call) e in absurd (cc))
            (λ k. ⊎_elim (λ e. let a : OnSlot (SetOdd j) ≡ OnName (LoadName n) = ap (λ (y : Entry). y.call) e in absurd (cc)) (λ k. k) k) (subst (In (step (OnSlot (SetOdd j)) w)) f.5 k);
      }

  -- more steps, and a life is still made with its link
  pub given_later : (xs ys : List Event) → ((x : Event) → In x xs → In x ys) → (j h k : ℕ) → WasGiven xs j h k → WasGiven ys j h k
  given_later xs ys part j h k given = let g = marked_given xs j h k given in given_by ys g.0 g.1 g.2 j h k (part (event g.0 g.1 (OnSlot (CreateLife j k)) g.2) g.3) g.4

  pub link_means : (few : List ℕ) (s : List Event) (c o i found : ℕ) → (cause : Cause p clients few s (event c o (OnSlot (SetOdd i)) found)) → ((x : Event) → In x s → In x es) → FailsLink cause.task few (trace_of c o s) i → LinkMeans few s i found cause.task
  link_means few s c o i found cause part f = let id : ℕ = f.0 in let k : ℕ = f.1 in let w = f.2 in
      let find : In (event c o (OnSlot (FindLink (socket_id_slot id) (socket_id_version id))) k) es = part (event c o (OnSlot (FindLink (socket_id_slot id) (socket_id_version id))) k) (from_trace c o s (step (OnSlot (FindLink (socket_id_slot id) (socket_id_version id))) k) w.link) in
      let b = before (event c o (OnSlot (FindLink (socket_id_slot id) (socket_id_version id))) k) find in record {
        name = w.name;
        bytes = w.bytes;
        op = w.op;
        id = id;
        link = k;
        refused = f.4;
        slot = f.3;
        odd = cause.means (socket_id_version id) (subst (λ z. 0 < holds z (socket_id_version id) (trace_of c o s)) (sym f.3) w.holds);
        given = subst (λ z. WasGiven es z (socket_id_version id) k) (sym f.3) (given_later b.story es b.part (socket_id_slot id) (socket_id_version id) k b.cause.means);
      }

  -- the life that such a step failed, where it found it live
  pub odd_life : (few : List ℕ) (s : List Event) (c o i found : ℕ) (task : Task) → (m : OddMeans few s c o i found task) → vref_version found % 2 ≡ 0 → (k : ℕ) × Made clients outcomes m.name k i (vref_version found)
  odd_life few s c o i found task m even = let l = named_life c o m.name m.id m.load in
      (l.0, subst (λ z. Made clients outcomes m.name l.0 i z) (sym (m.odd.0 even)) (subst (λ z. Made clients outcomes m.name l.0 z (socket_id_version m.id)) (sym m.slot) l.1))

  -- a step that failed a life is of a task that was answered so
  pub fail_says : (c o i found name code : ℕ) (t : Task) → (a : Asks clients c t) → t.number ≡ o → t.op ≡ ops.Fail name code → In (event c o (OnSlot (SetOdd i)) found) es → vref_version found % 2 ≡ 0 → (world.final c t a).outcome ≡ Some Failed
  fail_says c o i found name code t a e op m even = let q = tells_of c t a (step (OnSlot (SetOdd i)) found) (subst (λ z. In (step (OnSlot (SetOdd i)) found) (trace_of c z es)) (sym e) (to_trace es (event c o (OnSlot (SetOdd i)) found) m)) in
      let r : (world.final c t a).outcome ≡ Some (fail_outcome found) = subst (λ z. TellsFail z (world.final c t a).outcome found) op q in
      r ∙ ap (λ b. Some (cond b Failed (Already (record { 0 = found })))) (eq-eqb (vref_version found % 2) 0 even)

  pub fail_is : (f : ℕ × ℕ) → FailOf es f → IsFail clients outcomes f
  fail_is f x = let fin = world.final x.client x.task x.asks in record {
    client = x.client;
    task = x.task;
    is = task_of x.client x.task x.asks;
    numbered = x.numbered;
    name = x.name;
    code = x.code;
    op = x.op;
    became = subst (λ z. slice_get outcomes z ≡ Some (Some Failed)) x.numbered (fin.became ∙ ap (λ (o : Option Outcome). Some o) (fail_says x.client f.0 x.slot x.found x.name x.code x.task x.asks x.numbered x.op x.is x.even));
    slot = x.slot;
    version = vref_version x.found;
    life = x.life;
  }

  -- two steps that failed the life of one link are one step
  pub one_fail : (f g : ℕ × ℕ) (x : FailOf es f) (y : FailOf es g) → f.1 ≡ g.1 → event x.client f.0 (OnSlot (SetOdd x.slot)) x.found ≡ event y.client g.0 (OnSlot (SetOdd y.slot)) y.found
  one_fail f g x y e = let a = x.life in let b : Made clients outcomes y.name f.1 y.slot (vref_version y.found) = subst (λ z. Made clients outcomes y.name z y.slot (vref_version y.found)) (sym e) y.life in
      let same : a.task ≡ b.task = one_link p clients world.are a.client b.client x.name y.name f.1 a.task b.task (asks_of a.client a.task a.is) (asks_of b.client b.task b.is) a.op b.op in
      let said = one_said (slice_get outcomes b.task.number) (Some (Opened x.slot (vref_version x.found) f.1)) (Some (Opened y.slot (vref_version y.found) f.1)) (subst (λ (z : Task). slice_get outcomes z.number ≡ Some (Some (Opened x.slot (vref_version x.found) f.1))) same a.became) b.became in
      let slots : x.slot ≡ y.slot = cc in let versions : vref_version x.found ≡ vref_version y.found = cc in
      let h : ℕ = vref_version y.found in let ev = made_event x.name f.1 x.slot (vref_version x.found) a in let inside = (birth_means a.client a.task.number x.slot f.1 ev.0 ev.2).0 in
      let ex : Event = event x.client f.0 (OnSlot (SetOdd x.slot)) x.found in let ey : Event = event y.client g.0 (OnSlot (SetOdd y.slot)) y.found in
      once (added_by (is_failer h) y.slot) es ex ey (world.failed_once y.slot (subst (λ z. z < p.slots) slots inside) h) x.is y.is
      (subst (λ z. 0 < added_by (is_failer h) y.slot (event x.client f.0 (OnSlot (SetOdd z)) x.found)) (sym slots) (fail_adds x.client f.0 y.slot x.found h versions y.even))
      (fail_adds y.client g.0 y.slot y.found h refl y.even)
