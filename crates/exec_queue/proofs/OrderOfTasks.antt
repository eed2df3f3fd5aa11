-- The order of all tasks, as the place words tell it.
use Rattle.std.proofs.Common.{◌≡◌, ◌≢◌, ◌⊎◌, inl, inr, ℕ, zero, suc, ◌+◌, ◌*◌, ◌-◌, ◌<◌, ◌≤◌, nat_le, Bool, cond, eq-eqb, List, [], ◌∷◌, ◌++◌, length, take, drop, map, flat_map, refl, sym, ap, ◌∙◌, subst, arith, length-append}
use Rattle.std.proofs.lemmas.List.{length-map}
use mathlib.Core.Option.{some, some-ne-none}
use lib.ListN.{get_elem?}
use Rattle.brpc_model.specs.PlaceWords.{word_at}
use Rattle.sock_io.specs.LinkHalves.{OutState}
use Rattle.sock_io.specs.declared.link.Out.{Ghosts}
use Rattle.sock_words.specs.declared.plain.Plan.{Plan}
use Rattle.sock_words.specs.declared.place_word.PlaceWord.{PlaceWord}
use Rattle.sock_words.specs.PackedWords.{no_place, place_word}
use Rattle.chain_orders.specs.SentMessages.{Sent, index_of, sent_by, on_link, bytes_of}
use Rattle.chain_orders.specs.ListsInOneOrder.{AreMerged}
use Rattle.chain_orders.specs.MessagesInOneOrder.{IsBegun}
use Rattle.chain_orders.specs.PlacesInOrder.{LinkPlaced, StandsAt, PlacedInOrder}
use Rattle.chain_orders.proofs.MergedLists.{map_there, map_back}
use Rattle.chain_orders.proofs.ElementsOfOrder.{of_each, order_differs, merged_map}
use Rattle.exec_queue.specs.declared.task.Task.{Task}
use Rattle.exec_queue.specs.declared.queue.TaskQueue.{TaskQueue}
use Rattle.exec_queue.specs.declared.queue.TaskSubmitter.{TaskSubmitter}
use Rattle.exec_queue.specs.Tasks.{task_bytes}
use Rattle.exec_queue.specs.Submitters.{HasLine, IsQueuePlan}
use Rattle.exec_queue.specs.LinesInOrder.{AreLinesOf, line_word}
use Rattle.exec_queue.specs.EndedQueue.{AreSubmitters, NoLineTwice, IsWhole, AllWhole}
use Rattle.exec_queue.proofs.BytesOfTasks.{sixteen}
use Rattle.exec_queue.proofs.LinesApart.{AreApart, few_tasks}
use Rattle.exec_queue.proofs.SentTasks.{Knows, task_in, known_task, seats_of, sent_tasks, each_sent, indexes_differ}

-- ## Messages that are all tasks

-- each of them is one
abbrev pub AllTasks : List Sent → Type 0
AllTasks ms = (q : ℕ) (m : Sent) → get_elem? ms q ≡ some m → Knows m

abbrev pub tasks_in : List Sent → List Task
tasks_in ms = map task_in ms

later : (m : Sent) (ms : List Sent) → AllTasks (m ∷ ms) → AllTasks ms
later m ms all q x at = all (suc q) x at

-- all of them are on the one link
all_on : (ms : List Sent) → AllTasks ms → on_link 0 ms ≡ ms
all_on [] all = refl
all_on (m ∷ ms) all = ap (λ (t : Bool). cond t (m ∷ on_link 0 ms) (on_link 0 ms)) (eq-eqb m.link 0 (all 0 m refl).link) ∙ ap (λ l. m ∷ l) (all_on ms (later m ms all))

-- the bytes of the first ones
bytes_taken : (ms : List Sent) → AllTasks ms → (n : ℕ) → bytes_of (take n ms) ≡ flat_map task_bytes (take n (tasks_in ms))
bytes_taken ms all zero = refl
bytes_taken [] all (suc n) = refl
bytes_taken (m ∷ ms) all (suc n) = ap (λ (b : List ℕ). b ++ bytes_of (take n ms)) (all 0 m refl).bytes ∙ ap (λ (b : List ℕ). task_bytes (task_in m) ++ b) (bytes_taken ms (later m ms all) n)

-- a proper beginning of one is shorter
short : (part : List ℕ) (m : Sent) → Knows m → (part ≡ []) ⊎ ((more : List ℕ) × (m.bytes ≡ part ++ more) × (more ≢ [])) → length part < 16
short part m k (inl none_) = let e = ap length none_ in omega arith
short part m k (inr w) = some_more w.0 w.2 (ap length (sym w.1 ∙ k.bytes) ∙ sixteen (task_in m)) (length-append part w.0)
  where
    some_more : (more : List ℕ) → more ≢ [] → length (part ++ more) ≡ 16 → length (part ++ more) ≡ length part + length more → length part < 16
    some_more [] ne e s = absurd (ne refl)
    some_more (x ∷ xs) ne e s = omega arith

begun_short : (part : List ℕ) (ms : List Sent) → AllTasks ms → IsBegun part ms → length part < 16
begun_short part [] all b = let e = ap length b in omega arith
begun_short part (m ∷ ms) all b = short part m (all 0 m refl) b

dropped_tasks : (n : ℕ) (ms : List Sent) → AllTasks ms → AllTasks (drop n ms)
dropped_tasks zero ms all = all
dropped_tasks (suc n) [] all = all
dropped_tasks (suc n) (m ∷ ms) all = dropped_tasks n ms (later m ms all)

-- ## The order

module _ {O : Type 0} {g : Ghosts O} (q : TaskQueue O g) (tss : List (List Task)) (ss : List (TaskSubmitter O g)) (are : AreSubmitters q tss ss) (once : NoLineTwice tss) (p : Plan) (plan : IsQueuePlan p)
    {state : O → OutState} (places : List PlaceWord) (outs : List O) (placed : PlacedInOrder state p (seats_of q ss) places outs) where
  abbrev order : List Sent
  order = placed.order

  -- the tasks in their order
  abbrev pub tasks : List Task
  tasks = tasks_in order

  all_tasks : AllTasks order
  all_tasks = of_each (sent_by (seats_of q ss)) order placed.merged Knows (λ c n l x at bt. known_task x (each_sent q tss ss are c n l x at bt))

  pub merged_tasks : AreMerged tss tasks
  merged_tasks = subst (λ (l : List (List Task)). AreMerged l tasks) (sent_tasks q tss ss are) (merged_map task_in (sent_by (seats_of q ss)) order placed.merged)

  -- a task with its message
  task_at : (i : ℕ) (t : Task) → get_elem? tasks i ≡ some t → (m : Sent) × (get_elem? order i ≡ some m) × (task_in m ≡ t)
  task_at i t at = map_back task_in order i t at

  has_line : (i : ℕ) (t : Task) → get_elem? tasks i ≡ some t → HasLine t
  has_line i t at = let w = task_at i t at in subst HasLine w.2 (all_tasks i w.0 w.1).line

  pub all_whole : AllWhole tasks
  all_whole i t at = let w = task_at i t at in subst IsWhole w.2 (all_tasks i w.0 w.1).whole

  apart : AreApart tasks
  apart i j t u at bt same =
      let x = task_at i t at in
      let y = task_at j u bt in
      order_differs (sent_by (seats_of q ss)) order placed.merged (indexes_differ q tss ss are once) i j x.0 y.0 x.1 y.1
      ((all_tasks i x.0 x.1).index ∙ (ap (λ (z : Task). 8 * (z.line - 1)) x.2 ∙ (ap (λ (n : ℕ). 8 * (n - 1)) same ∙ (ap (λ (z : Task). 8 * (z.line - 1)) (sym y.2) ∙ sym (all_tasks j y.0 y.1).index))))

  pub few : length tasks ≤ 4096
  few = few_tasks tasks apart has_line

  -- ## The link

  pub one_link : LinkPlaced state p (seats_of q ss) places outs 0 order
  one_link = subst (LinkPlaced state p (seats_of q ss) places outs 0) (all_on order all_tasks) (placed.each 0 (let e = plan.links in omega arith))

  as_long : length tasks ≡ length order
  as_long = length-map order task_in

  abbrev pub line_of : Task → ℕ
  line_of t = t.line

  abbrev pub lines : List ℕ
  lines = map line_of tasks

  line_at : (i line : ℕ) → get_elem? lines i ≡ some line → (m : Sent) × (get_elem? order i ≡ some m) × ((task_in m).line ≡ line) × Knows m
  line_at i line at =
      let t = map_back line_of tasks i line at in
      let m = task_at i t.0 t.1 in
      (m.0, m.1, ap line_of m.2 ∙ t.2, all_tasks i m.0 m.1)

  word_of_line : (i l : ℕ) → get_elem? lines i ≡ some (suc l) → line_word places l ≡ place_word (nat_le one_link.kept i) 0 i
  word_of_line i l at =
      let m = line_at i (suc l) at in
      let index : index_of m.0 ≡ 8 * l = m.3.index ∙ (ap (λ (n : ℕ). 8 * (n - 1)) m.2 ∙ (let e : 8 * (suc l - 1) ≡ 8 * l = omega arith in e)) in
      let high = m.3.line.high in
      let is = m.2 in
      let ops = plan.operations in
      sym (ap (word_at places) index) ∙ one_link.word i m.0 m.1 (omega arith)

  line_of_word : (l : ℕ) → l < 4096 → line_word places l ≢ no_place → (i : ℕ) × (get_elem? lines i ≡ some (suc l))
  line_of_word l low some_ = let ops = plan.operations in by_shown (placed.shown (8 * l) (omega arith))
    where
      stands : StandsAt p order (8 * l) → (i : ℕ) × (get_elem? lines i ≡ some (suc l))
      stands w =
          let links = plan.links in
          let inside = w.inside in
          let zero_ : w.link ≡ 0 = omega arith in
          let there : get_elem? order w.position ≡ some w.message = ap (λ (ms : List Sent). get_elem? ms w.position) (sym (all_on order all_tasks)) ∙ (ap (λ (k : ℕ). get_elem? (on_link k order) w.position) (sym zero_) ∙ w.there) in
          let k = all_tasks w.position w.message there in
          let index = k.index in let own = w.index in let some_line = k.line.low in
          let is : (task_in w.message).line ≡ suc l = omega arith in
          (w.position, map_there line_of tasks w.position (task_in w.message) (map_there task_in order w.position w.message there) ∙ ap some is)

      by_shown : (word_at places (8 * l) ≡ no_place) ⊎ StandsAt p order (8 * l) → (i : ℕ) × (get_elem? lines i ≡ some (suc l))
      by_shown (inl none_) = absurd (some_ none_)
      by_shown (inr w) = stands w

  pub lines_of : AreLinesOf places 4096 lines one_link.kept
  lines_of = record {
    few = (let a = one_link.few in let b = as_long in let c = length-map tasks line_of in omega arith);
    long = (let b = few in let c = length-map tasks line_of in omega arith);
    placed = word_of_line;
    counted = λ i line at. (let m = line_at i line at in let low = m.3.line.low in let high = m.3.line.high in let is = m.2 in (omega arith, omega arith));
    each = line_of_word;
  }

  first_whole : (n : ℕ) (ts : List Task) → AllWhole ts → AllWhole (take n ts)
  first_whole zero ts all i t at = absurd (some-ne-none t (sym at))
  first_whole (suc n) [] all i t at = absurd (some-ne-none t (sym at))
  first_whole (suc n) (x ∷ xs) all zero t at = all 0 t at
  first_whole (suc n) (x ∷ xs) all (suc i) t at = first_whole n xs (λ j u bt. all (suc j) u bt) i t at

  first_few : (n : ℕ) (ts : List Task) → length (take n ts) ≤ length ts
  first_few zero ts = omega arith
  first_few (suc n) [] = omega arith
  first_few (suc n) (x ∷ xs) = let h = first_few n xs in omega arith

  -- those that it took whole
  pub kept_whole : AllWhole (take one_link.kept tasks)
  kept_whole = first_whole one_link.kept tasks all_whole

  pub taken_few : length (take one_link.kept tasks) ≤ 4096
  taken_few = let a = first_few one_link.kept tasks in let b = few in omega arith

  pub same_count : length lines ≡ length order
  same_count = length-map tasks line_of ∙ as_long

  -- what it took
  pub took_tasks : one_link.took ≡ flat_map task_bytes (take one_link.kept tasks) ++ one_link.part
  took_tasks = one_link.took_is ∙ ap (λ (b : List ℕ). b ++ one_link.part) (bytes_taken order all_tasks one_link.kept)

  pub part_few : length one_link.part < 16
  part_few = begun_short one_link.part (drop one_link.kept order) (dropped_tasks one_link.kept order all_tasks) one_link.begun

  pub kept_few : one_link.kept ≤ length tasks
  kept_few = let a = one_link.few in let b = as_long in omega arith
