-- Each client stores a life in the word of the `open` of its link, so each life of a run stands there from the beginning on; and a life's link stays noted.
use Rattle.std.proofs.Common.{◌≡◌, ℕ, zero, suc, ◌+◌, ◌==◌, Bool, true, false, cond, List, [], ◌∷◌, ◌++◌, refl, sym, ap, ◌∙◌, subst, ⊎_elim, arith}
use Rattle.std.specs.Prelude as std
use Rattle.std.specs.Prelude.{None, Some, option_map}
use Rattle.std.specs.List.{AllByRecursion, filter_map, cons_option}
use mathlib.Core.Option.{some}
use lib.ListN.{get_elem?}
use Rattle.sock_words.specs.declared.plain.Plan.{Plan}
use Rattle.seat_programs.specs.brpc_model.specs.Items.{Item, Open, Send, Call, Expire, Join, Hold, Drop, Fail, is_open}
use Rattle.seat_programs.specs.brpc_model.specs.Operations.{Operation, operations}
use Rattle.seat_programs.specs.brpc_model.specs.LinePlaceFaults.{names}
use Rattle.seat_programs.specs.corr_core.specs.declared.marks.Plan.{Plan as IdPlan}
use Rattle.sock_model.specs.declared.view.View.{View}
use Rattle.sock_model.specs.MarkWeights.{is_linked}
use Rattle.sock_model.specs.Marks.{about}
use Rattle.sock_steps.proofs.SumsAsMarksChange.{either_way}
use Rattle.seat_programs.specs.declared.task.Op.{Op}
use Rattle.seat_programs.specs.declared.task.Op.TheVariants as ops
use Rattle.seat_programs.specs.declared.task.Task.{Task}
use Rattle.seat_programs.specs.declared.task.Sizes.{Sizes}
use Rattle.seat_programs.specs.Programs.{Program, Rest, open_from, make_socket}
use Rattle.seat_programs.specs.Tasks.{Numbered, numbered_from, numbered, of_client, op_of, task_of, tasks, opens}
use Rattle.seat_programs.specs.ClientProgram.{HeldLife, client_from}
use Rattle.seat_programs.specs.Cores.{SeatState, resolved, next_step}
use Rattle.seat_programs.specs.ScriptSetupToEnding.{sizes_of, beginning, programs, readers_from}
use Rattle.sock_runs.proofs.FailedLivesEnded.{none_has}
use Rattle.program_walks.proofs.ThroughCalls.{through_others, through_next}
use Rattle.program_walks.proofs.ThroughClients.{through_back, through_any}
use Rattle.program_walks.proofs.OpenedLivesRecorded.{mapped, appended, all_at}
use Rattle.program_walks.proofs.LinksRecorded.{Gives, gives_passes, gives_opens, gives_follow, Linked}
use Rattle.sock_words.specs.Totals.{total}

-- ## Programs

module _ (own : ℕ → ℕ → Type 0) where
  abbrev pub OwnsLink : ℕ → Op → Type 0
  OwnsLink o (ops.Open name k) = own k o
  OwnsLink o other = Unit {0}

  abbrev G : Program → Type 0
  G = Gives own

  gives_open : (more i o name k : ℕ) (next : Program) → own k o → G next → G (open_from more i o name k next)
  gives_open zero i o name k next mine after = λ _ _ _ _. after
  gives_open (suc more) i o name k next mine after = λ found. either_way (found == 0) (make_socket o name k i next) (open_from more (i + 1) o name k next) (Gives own)
      (λ _ _ _ word. ((o, mine, refl), λ _ _. after)) (gives_open more (i + 1) o name k next mine after)

  pub gives_client : (sizes : Sizes) (ts : List Task) (held : List HeldLife) → AllByRecursion (λ (t : Task). OwnsLink t.number t.op) ts → G (client_from sizes held ts)
  gives_client sizes [] held mine = through_back G (gives_passes own).sends.plain.words tt held
  gives_client sizes (t ∷ ts) held mine = let after : (h : List HeldLife) → G (client_from sizes h ts) = λ h. gives_client sizes ts h mine.1 in
      through_any G (gives_passes own) sizes held t.number (λ h. client_from sizes h ts) t.op after
      (λ name k e. gives_open sizes.slots 0 t.number name k (client_from sizes held ts) (subst (OwnsLink t.number) e mine.0) (after held))

  pub others_give : (n : ℕ) (calls os : List ℕ) (k i : ℕ) (x : Program) → get_elem? (std.replicate n Rest ++ readers_from calls k os) i ≡ some x → G x
  others_give = through_others G (gives_passes own) (gives_opens own) tt

  -- no life is made before the first step
  pub beginning_linked : (p : Plan) (q : IdPlan) (clients : List (List Task)) (others : List Program) → AllByRecursion (AllByRecursion (λ (t : Task). OwnsLink t.number t.op)) clients → ((k : ℕ) (x : Program) → get_elem? others k ≡ some x → G x)
      → (vs : List View) → ((j : ℕ) (v : View) → get_elem? vs j ≡ some v → v.marks ≡ []) → Linked p own (beginning p q (programs (sizes_of p q) clients ++ others)) vs
  beginning_linked p q clients others mine still vs blank = record {
    programs = λ j seat at. let a = mapped (λ (program : Program). record { program = next_step (resolved [] program); hand = [] }) (programs (sizes_of p q) clients ++ others) j seat at in
        subst (λ (s : SeatState). G s.program) a.2 (through_next G (gives_passes own) (gives_follow own) [] a.0 (⊎_elim
        (λ first. let b = mapped (client_from (sizes_of p q) []) clients j a.0 first in subst G b.2 (gives_client (sizes_of p q) b.0 [] (all_at (AllByRecursion (λ (t : Task). OwnsLink t.number t.op)) clients j b.0 mine b.1)))
        (λ other. still other.0 a.0 other.1)
        (appended (programs (sizes_of p q) clients) others j a.0 a.1)));
    linked = λ i h k inside some_. let none_ = none_has (is_linked h k) i vs (λ j v at. ap (λ l. total (is_linked h k) (about i l)) (blank j v at)) in absurd (omega (arith, some_, none_));
  }

-- ## Scripts

-- link k is that of the `open` of operation o
abbrev pub OpensLink : List ℕ → ℕ → ℕ → Type 0
OpensLink os k o = get_elem? os k ≡ some o

abbrev opens_of : List Numbered → List ℕ
opens_of l = filter_map (λ (n : Numbered). cond (is_open n.op.item) (Some n.number) None) l

-- an `open` stands at the number of its link
abbrev Stands : List ℕ → Numbered → Type 0
Stands os x = is_open x.op.item ≡ true → get_elem? os x.link ≡ some x.number

-- in a list of numbered operations, of which the next link has this number, behind so many others
module _ (os : List ℕ) where
  stands_from : (number link : ℕ) (l : List Operation) → ((i : ℕ) → get_elem? (opens_of (numbered_from number link l)) i ≡ get_elem? os (link + i)) → AllByRecursion (Stands os) (numbered_from number link l)
  stands_from number link [] same = tt
  stands_from number link (op ∷ l) same = (first same, stands_from (number + 1) (cond (is_open op.item) (link + 1) link) l (later (is_open op.item) same))
    where
      first : ((i : ℕ) → get_elem? (cons_option (cond (is_open op.item) (Some number) None) (opens_of (numbered_from (number + 1) (cond (is_open op.item) (link + 1) link) l))) i ≡ get_elem? os (link + i))
          → is_open op.item ≡ true → get_elem? os link ≡ some number
      first same opening = ap (get_elem? os) (let z : link ≡ link + 0 = omega arith in z) ∙ sym (same 0) ∙ ap (λ c. get_elem? (cons_option (cond c (Some number) None) (opens_of (numbered_from (number + 1) (cond (is_open op.item) (link + 1) link) l))) 0) opening

      later : (b : Bool) → ((i : ℕ) → get_elem? (cons_option (cond b (Some number) None) (opens_of (numbered_from (number + 1) (cond b (link + 1) link) l))) i ≡ get_elem? os (link + i))
          → (i : ℕ) → get_elem? (opens_of (numbered_from (number + 1) (cond b (link + 1) link) l)) i ≡ get_elem? os (cond b (link + 1) link + i)
      later true same i = same (suc i) ∙ ap (get_elem? os) (let z : link + suc i ≡ link + 1 + i = omega arith in z)
      later false same i = same i

-- the tasks of a client own their links
module _ (os : List ℕ) (all : List Numbered) (ns : List (List ℕ)) (client : ℕ) where
  one_owns : (x : Numbered) (item : Item) → x.op.item ≡ item → Stands os x → (rest : List Task) → AllByRecursion (λ (t : Task). OwnsLink (OpensLink os) t.number t.op) rest
      → AllByRecursion (λ (t : Task). OwnsLink (OpensLink os) t.number t.op) (cons_option (option_map (λ (op : Op). record { number = x.number; op = op }) (op_of all ns x item)) rest)
  one_owns x (Open name shape) e stands rest more = (stands (ap is_open e), more)
  one_owns x (Send name bytes) e stands rest more = (tt, more)
  one_owns x (Call call) e stands rest more = (tt, more)
  one_owns x (Expire c i) e stands rest more = (tt, more)
  one_owns x (Join c i) e stands rest more = (tt, more)
  one_owns x (Hold name) e stands rest more = (tt, more)
  one_owns x (Drop name) e stands rest more = (tt, more)
  one_owns x (Fail name code) e stands rest more = (tt, more)
  one_owns x _ e stands rest more = more

  client_owns : (x : Numbered) (xs : List Numbered) (b : Bool) → Stands os x → AllByRecursion (λ (t : Task). OwnsLink (OpensLink os) t.number t.op) (filter_map (task_of all ns) (of_client client xs))
      → AllByRecursion (λ (t : Task). OwnsLink (OpensLink os) t.number t.op) (filter_map (task_of all ns) (cond b (x ∷ of_client client xs) (of_client client xs)))
  client_owns x xs true stands more = one_owns x x.op.item refl stands (filter_map (task_of all ns) (of_client client xs)) more
  client_owns x xs false stands more = more

  all_own : (l : List Numbered) → AllByRecursion (Stands os) l → AllByRecursion (λ (t : Task). OwnsLink (OpensLink os) t.number t.op) (filter_map (task_of all ns) (of_client client l))
  all_own [] stands = tt
  all_own (x ∷ xs) stands = client_owns x xs (x.op.client == client) stands.0 (all_own xs stands.1)

-- in a script each `open` stands at the number of its link
pub script_owns : (script : List Item) (client : ℕ) → AllByRecursion (λ (t : Task). OwnsLink (OpensLink (opens script)) t.number t.op) (tasks script client)
script_owns script client = all_own (opens script) (numbered script) (names script) client (numbered script) (stands_from (opens script) 0 0 (operations script) (λ i. ap (get_elem? (opens script)) (let z : i ≡ 0 + i = omega arith in z)))
