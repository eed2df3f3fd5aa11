-- The messages that submitters sent are their tasks.
use Rattle.std.proofs.Common.{◌≡◌, ℕ, zero, suc, ◌*◌, ◌-◌, ◌<◌, ◌^◌, Option, List, [], ◌∷◌, ◌++◌, map, refl, sym, ap, ◌∙◌, subst, arith}
use Rattle.std.specs.Option.{unwrap_or}
use mathlib.Core.Option.{some, some-injective, some-ne-none}
use lib.ListN.{get_elem?}
use Rattle.atomic_table.specs.declared.shared.Seat.{Seat}
use Rattle.sock_io.specs.declared.link.Out.{Ghosts}
use Rattle.sock_rule.specs.declared.homes.SockHome.{SockHome}
use Rattle.sock_model.specs.declared.chain.Entry.{Entry}
use Rattle.sock_model.specs.declared.view.View.{View}
use Rattle.chain_orders.specs.SentMessages.{Sent, index_of, sent_of, sent_by}
use Rattle.chain_orders.specs.MessagesInOneOrder.{IndexesDiffer}
use Rattle.chain_orders.proofs.MergedLists.{map_there}
use Rattle.exec_queue.specs.declared.task.Task.{Task}
use Rattle.exec_queue.specs.declared.queue.TaskQueue.{TaskQueue}
use Rattle.exec_queue.specs.declared.queue.TaskSubmitter.{TaskSubmitter}
use Rattle.exec_queue.specs.Tasks.{IsTask, task_bytes, task_of}
use Rattle.exec_queue.specs.Submitters.{IsSubmitted, AreSubmitted, HasLine, heading_of_task}
use Rattle.exec_queue.specs.EndedQueue.{AreSubmitters, NoLineTwice, IsWhole}
use Rattle.exec_queue.proofs.BytesOfTasks.{task_again}
use Rattle.exec_queue.proofs.LinesApart.{one_line}

-- ## A message

-- it is that of a task
pub record IsTaskSent (m : Sent) : Type 0 where
  pub number : ℕ
  pub task : Task
  pub is_task : IsTask task
  pub line : HasLine task
  pub amount : task.amount < 2 ^ 64
  pub link : m.link ≡ 0
  pub heading : m.heading ≡ heading_of_task number task
  pub bytes : m.bytes ≡ task_bytes task

abbrev no_task : Task
no_task = record { kind = 0; a = 0; b = 0; line = 0; amount = 0 }

-- its task, by its bytes
abbrev pub task_in : Sent → Task
task_in m = unwrap_or (task_of m.bytes) no_task

whole_task : (m : Sent) (s : IsTaskSent m) → IsWhole s.task
whole_task m s = record { task = s.is_task; line = (let h = s.line.high in omega arith); amount = s.amount }

task_is : (m : Sent) (s : IsTaskSent m) → task_in m ≡ s.task
task_is m s = ap (λ (b : List ℕ). unwrap_or (task_of b) no_task) s.bytes ∙ ap (λ (o : Option Task). unwrap_or o no_task) (task_again s.task (whole_task m s))

-- what of it is known by its task
pub record Knows (m : Sent) : Type 0 where
  pub whole : IsWhole (task_in m)
  pub line : HasLine (task_in m)
  pub link : m.link ≡ 0
  pub index : index_of m ≡ 8 * ((task_in m).line - 1)
  pub bytes : m.bytes ≡ task_bytes (task_in m)

pub known_task : (m : Sent) → IsTaskSent m → Knows m
known_task m s = let e = sym (task_is m s) in record {
  whole = subst IsWhole e (whole_task m s);
  line = subst HasLine e s.line;
  link = s.link;
  index = ap (λ h. h.label.place) s.heading ∙ ap (λ (t : Task). 8 * (t.line - 1)) e;
  bytes = s.bytes ∙ ap task_bytes e;
}

-- ## The list of a submitter

abbrev sent_task : (number : ℕ) (t : Task) (e : Entry) → IsSubmitted number t e → IsTaskSent (sent_of e)
sent_task number t e is = record { number = number; task = t; is_task = is.task; line = is.line; amount = is.amount; link = is.link; heading = is.heading; bytes = is.bytes }

own_sent : (number : ℕ) (ts : List Task) (es : List Entry) → AreSubmitted number ts es → (n : ℕ) (m : Sent) → get_elem? (map sent_of es) n ≡ some m → IsTaskSent m
own_sent number [] [] are n m at = absurd (some-ne-none m (sym at))
own_sent number [] (e ∷ es) are n m at = absurd are
own_sent number (t ∷ ts) [] are n m at = absurd are
own_sent number (t ∷ ts) (e ∷ es) are zero m at = subst IsTaskSent (some-injective (sent_of e) m at) (sent_task number t e are.0)
own_sent number (t ∷ ts) (e ∷ es) are (suc n) m at = own_sent number ts es are.1 n m at

both : {A : Type 0} (x y : A) (xs ys : List A) → x ≡ y → xs ≡ ys → x ∷ xs ≡ y ∷ ys
both x y xs ys e es = ap (λ z. z ∷ xs) e ∙ ap (λ zs. y ∷ zs) es

own_tasks : (number : ℕ) (ts : List Task) (es : List Entry) → AreSubmitted number ts es → map task_in (map sent_of es) ≡ ts
own_tasks number [] [] are = refl
own_tasks number [] (e ∷ es) are = absurd are
own_tasks number (t ∷ ts) [] are = absurd are
own_tasks number (t ∷ ts) (e ∷ es) are = both (task_in (sent_of e)) t (map task_in (map sent_of es)) ts (task_is (sent_of e) (sent_task number t e are.0)) (own_tasks number ts es are.1)

-- ## The lists of all

module _ {O : Type 0} {g : Ghosts O} (q : TaskQueue O g) where
  abbrev pub seats_of : List (TaskSubmitter O g) → List (Seat (SockHome O g) View)
  seats_of ss = map (λ (s : TaskSubmitter O g). s.seat) ss

  first_list : (s : TaskSubmitter O g) (ss : List (TaskSubmitter O g)) (own : List Entry) → s.seat.me.0.lists ≡ own ∷ [] → sent_by (seats_of (s ∷ ss)) ≡ map sent_of own ∷ sent_by (seats_of ss)
  first_list s ss own lists = ap (λ (l : List (List Entry)). map (map sent_of) l ++ sent_by (seats_of ss)) lists

  pub sent_tasks : (tss : List (List Task)) (ss : List (TaskSubmitter O g)) → AreSubmitters q tss ss → map (map task_in) (sent_by (seats_of ss)) ≡ tss
  sent_tasks [] [] are = refl
  sent_tasks [] (s ∷ ss) are = absurd are
  sent_tasks (ts ∷ tss) [] are = absurd are
  sent_tasks (ts ∷ tss) (s ∷ ss) are = ap (map (map task_in)) (first_list s ss are.0.own are.0.lists) ∙ both (map task_in (map sent_of are.0.own)) ts (map (map task_in) (sent_by (seats_of ss))) tss (own_tasks s.number ts are.0.own are.0.submitted) (sent_tasks tss ss are.1)

  pub each_sent : (tss : List (List Task)) (ss : List (TaskSubmitter O g)) → AreSubmitters q tss ss → (c n : ℕ) (l : List Sent) (x : Sent) → get_elem? (sent_by (seats_of ss)) c ≡ some l → get_elem? l n ≡ some x → IsTaskSent x
  each_sent [] [] are c n l x at bt = absurd (some-ne-none l (sym at))
  each_sent [] (s ∷ ss) are c n l x at bt = absurd are
  each_sent (ts ∷ tss) [] are c n l x at bt = absurd are
  each_sent (ts ∷ tss) (s ∷ ss) are c n l x at bt = by_place c (ap (λ (ls : List (List Sent)). get_elem? ls c) (sym (first_list s ss are.0.own are.0.lists)) ∙ at) (λ d here. each_sent tss ss are.1 d n l x here bt)
    where
      by_place : (c : ℕ) → get_elem? (map sent_of are.0.own ∷ sent_by (seats_of ss)) c ≡ some l → ((d : ℕ) → get_elem? (sent_by (seats_of ss)) d ≡ some l → IsTaskSent x) → IsTaskSent x
      by_place zero here again = own_sent s.number ts are.0.own are.0.submitted n x (ap (λ (m : List Sent). get_elem? m n) (some-injective (map sent_of are.0.own) l here) ∙ bt)
      by_place (suc d) here again = again d here

  -- no two of them have one place index
  pub indexes_differ : (tss : List (List Task)) (ss : List (TaskSubmitter O g)) → AreSubmitters q tss ss → NoLineTwice tss → IndexesDiffer (sent_by (seats_of ss))
  indexes_differ tss ss are once c d m n l k x y lc kd xm yn same =
      let lists = sent_tasks tss ss are in
      let kx = known_task x (each_sent tss ss are c m l x lc xm) in
      let ky = known_task y (each_sent tss ss are d n k y kd yn) in
      let xi = kx.index in let yi = ky.index in let xl = kx.line.low in let yl = ky.line.low in
      let line : (task_in x).line ≡ (task_in y).line = omega arith in
      one_line tss once c d m n (map task_in l) (map task_in k) (task_in x) (task_in y)
      (ap (λ (ls : List (List Task)). get_elem? ls c) (sym lists) ∙ map_there (map task_in) (sent_by (seats_of ss)) c l lc)
      (ap (λ (ls : List (List Task)). get_elem? ls d) (sym lists) ∙ map_there (map task_in) (sent_by (seats_of ss)) d k kd)
      (map_there task_in l m x xm) (map_there task_in k n y yn) line
