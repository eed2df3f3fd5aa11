-- The lines of a script as submitters did them that go round, and what follows of their answers and their order.
use Rattle.std.proofs.Common.{◌≡◌, ◌≢◌, ℕ, zero, suc, ◌+◌, ◌-◌, ◌*◌, ◌/◌, ◌%◌, ◌<◌, ◌≤◌, ◌⊎◌, inl, inr, cond, eqb, eq-eqb, ne_eqb, Option, Some, None, List, [], ◌∷◌, ◌++◌, length, map, refl, sym, ap, ◌∙◌, subst, arith}
use Rattle.std.specs.Prelude.{slice_get, slice_index_or}
use Rattle.std.proofs.Math.Nat.{mul-suc, mul_comm, mod-lt, div-add-mod, mul-le-mul_left}
use Rattle.std.proofs.lemmas.Nat.{div-mul-add, mod-mul-add}
use Rattle.std.proofs.lemmas.List.{length-map}
use Rattle.std.proofs.lemmas.Option.{slice_get-get_or, slice_get_within}
use mathlib.Core.Logic.{dite}
use mathlib.Core.Option.{some, some-injective, some-ne-none}
use native.Mathlib.Decide.{ℕ_discrete, dec_lt}
use lib.ListN.{get_elem?}
use Rattle.chain_orders.specs.ListsInOneOrder.{part_of, AreMerged}
use Rattle.chain_orders.proofs.MergedLists.{map_there, map_back, part_here, part_other}
use Rattle.chain_orders.proofs.OwnPlaces.{before}
use Rattle.chain_orders.proofs.ElementsOfOrder.{InList, in_list}
use Rattle.exec_queue.specs.declared.task.Task as queue
use Rattle.exec_script.specs.declared.op.Op.{Op}
use Rattle.exec_script.specs.declared.op.Op.TheVariants.{Task, Stop}
use Rattle.exec_script.specs.declared.op.Change.{Change}
use Rattle.exec_script.specs.declared.told.Answer.{Answer}
use Rattle.exec_script.specs.declared.told.Answer.TheVariants.{Accepted, Refused, Stopped, Already}
use Rattle.exec_script.specs.QueueEnds.{submitter_of, IsAnswered, SomeStopped, Answers, AreAnswered, IsOrder, IsStoppedOnce}
use Rattle.exec_threads.specs.TasksOfLines.{task_on, accepted_at, accepted_from, stopped_in, IsLate}
use Rattle.exec_threads.proofs.AcceptedLines.{got, got_back, IsAccepted, accepted_is, accepted_there, line_of_accepted, line_is, lines_rise, accepted_of, own_tasks, of_own}

-- ## Merged orders

module _ {A : Type 0} where
  -- what stands in a part stands in the order
  pub part_from : (c : ℕ) (by : List ℕ) (xs : List A) (n : ℕ) (x : A) → get_elem? (part_of c by xs) n ≡ some x → (q : ℕ) × (get_elem? xs q ≡ some x)
  part_from c [] xs n x e = absurd (some-ne-none x (sym e))
  part_from c (b ∷ bs) [] n x e = absurd (some-ne-none x (sym e))
  part_from c (b ∷ bs) (y ∷ ys) n x e = dite (ℕ_discrete b c)
      (λ is. here (λ m at. part_from c bs ys m x at) n (sym (ap (λ (l : List A). get_elem? l n) (part_here c b bs y ys is)) ∙ e))
      (λ ne. let w = part_from c bs ys n x (sym (ap (λ (l : List A). get_elem? l n) (part_other c b bs y ys ne)) ∙ e) in (suc w.0, w.1))
    where
      here : ((m : ℕ) → get_elem? (part_of c bs ys) m ≡ some x → (q : ℕ) × (get_elem? ys q ≡ some x)) → (n : ℕ) → get_elem? (y ∷ part_of c bs ys) n ≡ some x → (q : ℕ) × (get_elem? (y ∷ ys) q ≡ some x)
      here others zero e = (0, e)
      here others (suc n) e = let w = others n e in (suc w.0, w.1)

before_here : (a b : ℕ) (bs : List ℕ) (q : ℕ) → b ≡ a → before a (b ∷ bs) (suc q) ≡ suc (before a bs q)
before_here a b bs q is = ap (λ t. cond t 1 0 + before a bs q) (eq-eqb b a is) ∙ omega arith

before_other : (a b : ℕ) (bs : List ℕ) (q : ℕ) → b ≢ a → before a (b ∷ bs) (suc q) ≡ before a bs q
before_other a b bs q ne = ap (λ t. cond t 1 0 + before a bs q) (ne_eqb b a ne) ∙ omega arith

-- of two elements of a list the earlier one of the order stands before
before_rises : (a : ℕ) (by : List ℕ) (q r : ℕ) → get_elem? by q ≡ some a → q < r → before a by q < before a by r
before_rises a [] q r f less = absurd (some-ne-none a (sym f))
before_rises a (b ∷ bs) q zero f less = absurd (omega (arith, less))
before_rises a (b ∷ bs) zero (suc r) f less = (let h = before_here a b bs r (some-injective b a f) in omega (arith, h))
before_rises a (b ∷ bs) (suc q) (suc r) f less = (let rises = before_rises a bs q r f (omega (arith, less)) in dite (ℕ_discrete b a)
    (λ is. let h = before_here a b bs q is in let k = before_here a b bs r is in omega (arith, h, k, rises))
    (λ ne. let h = before_other a b bs q ne in let k = before_other a b bs r ne in omega (arith, h, k, rises)))

-- ## Stops

stopped_more : (a : Answer) (theirs : List Answer) → stopped_in (a ∷ theirs) ≡ stopped_in (a ∷ []) + stopped_in theirs
stopped_more Accepted theirs = omega arith
stopped_more Refused theirs = omega arith
stopped_more Already theirs = omega arith
stopped_more Stopped theirs = omega arith

stopped_here : (a : Answer) → a ≡ Stopped → stopped_in (a ∷ []) ≡ 1
stopped_here a is = ap (λ (b : Answer). stopped_in (b ∷ [])) is

stopped_at : (theirs : List Answer) (n : ℕ) → slice_get theirs n ≡ Some Stopped → 1 ≤ stopped_in theirs
stopped_at [] n e = absurd cc
stopped_at (a ∷ theirs) zero e = (let m = stopped_more a theirs in let h = stopped_here a (let is : a ≡ Stopped = cc in is) in omega (arith, m, h))
stopped_at (a ∷ theirs) (suc n) e = (let m = stopped_more a theirs in let h = stopped_at theirs n e in omega (arith, m, h))

one_place_stopped : (theirs : List Answer) (n m : ℕ) → stopped_in theirs ≤ 1 → slice_get theirs n ≡ Some Stopped → slice_get theirs m ≡ Some Stopped → n ≡ m
one_place_stopped [] n m few e f = absurd cc
one_place_stopped (a ∷ theirs) zero zero few e f = refl
one_place_stopped (a ∷ theirs) zero (suc m) few e f = absurd (let k = stopped_more a theirs in let h = stopped_here a (let is : a ≡ Stopped = cc in is) in let g = stopped_at theirs m f in omega (arith, few, k, h, g))
one_place_stopped (a ∷ theirs) (suc n) zero few e f = absurd (let k = stopped_more a theirs in let h = stopped_here a (let is : a ≡ Stopped = cc in is) in let g = stopped_at theirs n e in omega (arith, few, k, h, g))
one_place_stopped (a ∷ theirs) (suc n) (suc m) few e f = ap suc (one_place_stopped theirs n m (let k = stopped_more a theirs in omega (arith, few, k)) e f)

some_stopped : (theirs : List Answer) → 1 ≤ stopped_in theirs → (n : ℕ) × (slice_get theirs n ≡ Some Stopped)
some_stopped [] some_ = absurd (omega (arith, some_))
some_stopped (Stopped ∷ theirs) some_ = (0, refl)
some_stopped (Accepted ∷ theirs) some_ = let w = some_stopped theirs some_ in (suc w.0, w.1)
some_stopped (Refused ∷ theirs) some_ = let w = some_stopped theirs some_ in (suc w.0, w.1)
some_stopped (Already ∷ theirs) some_ = let w = some_stopped theirs some_ in (suc w.0, w.1)

-- how many lines of all submitters stopped the queue
abbrev pub stopped_of : List (List Answer) → ℕ
stopped_of [] = 0
stopped_of (theirs ∷ more) = stopped_in theirs + stopped_of more

stopped_by : (own : List (List Answer)) (k n : ℕ) (theirs : List Answer) → slice_get own k ≡ Some theirs → slice_get theirs n ≡ Some Stopped → 1 ≤ stopped_of own
stopped_by [] k n theirs e f = absurd cc
stopped_by (bs ∷ more) zero n theirs e f = (let h = stopped_at bs n (subst (λ (x : List Answer). slice_get x n ≡ Some Stopped) (sym (let same : bs ≡ theirs = cc in same)) f) in omega (arith, h))
stopped_by (bs ∷ more) (suc k) n theirs e f = (let h = stopped_by more k n theirs e f in omega (arith, h))

one_line_stopped : (own : List (List Answer)) (k n l m : ℕ) (theirs bs : List Answer) → stopped_of own ≤ 1 → slice_get own k ≡ Some theirs → slice_get theirs n ≡ Some Stopped → slice_get own l ≡ Some bs → slice_get bs m ≡ Some Stopped → (k ≡ l) × (n ≡ m)
one_line_stopped [] k n l m theirs bs few e f g h = absurd cc
one_line_stopped (cs ∷ more) zero n zero m theirs bs few e f g h =
    (refl, one_place_stopped cs n m (omega (arith, few)) (subst (λ (x : List Answer). slice_get x n ≡ Some Stopped) (sym (let same : cs ≡ theirs = cc in same)) f) (subst (λ (x : List Answer). slice_get x m ≡ Some Stopped) (sym (let same : cs ≡ bs = cc in same)) h))
one_line_stopped (cs ∷ more) zero n (suc l) m theirs bs few e f g h = absurd (let x = stopped_at cs n (subst (λ (x : List Answer). slice_get x n ≡ Some Stopped) (sym (let same : cs ≡ theirs = cc in same)) f) in let y = stopped_by more l m bs g h in omega (arith, few, x, y))
one_line_stopped (cs ∷ more) (suc k) n zero m theirs bs few e f g h = absurd (let x = stopped_at cs m (subst (λ (x : List Answer). slice_get x m ≡ Some Stopped) (sym (let same : cs ≡ bs = cc in same)) h) in let y = stopped_by more k n theirs e f in omega (arith, few, x, y))
one_line_stopped (cs ∷ more) (suc k) n (suc l) m theirs bs few e f g h = let w = one_line_stopped more k n l m theirs bs (omega (arith, few)) e f g h in (ap suc w.0, w.1)

some_line_stopped : (own : List (List Answer)) → 1 ≤ stopped_of own → (k n : ℕ) × (theirs : List Answer) × (slice_get own k ≡ Some theirs) × (slice_get theirs n ≡ Some Stopped)
some_line_stopped [] some_ = absurd (omega (arith, some_))
some_line_stopped (theirs ∷ more) some_ = dite (dec_lt 0 (stopped_in theirs))
    (λ any. let w = some_stopped theirs (omega (arith, any)) in (0, w.0, theirs, refl, w.1))
    (λ none. let w = some_line_stopped more (omega (arith, some_, none)) in (suc w.0, w.1, w.2, w.3, w.4))

-- ## Lines that go round

-- what each submitter's lines were answered, and what each line of the script was
pub record IsRound (script : List Op) (step : ℕ) (own : List (List Answer)) (answers : List Answer) : Type 0 where
  pub steps : 1 ≤ step
  pub count : length own ≡ step
  pub inside : (k n : ℕ) (theirs : List Answer) → slice_get own k ≡ Some theirs → n < length theirs → k + step * n < length script
  pub fit : (k n : ℕ) (theirs : List Answer) (op : Op) (a : Answer) → slice_get own k ≡ Some theirs → slice_get script (k + step * n) ≡ Some op → slice_get theirs n ≡ Some a → Answers op a
  pub behind : (k n stop : ℕ) (theirs : List Answer) (late : Answer) → slice_get own k ≡ Some theirs → slice_get theirs n ≡ Some late → IsLate late → slice_get theirs stop ≡ Some Stopped → stop < n
  pub long : length answers ≡ length script
  pub dealt : (place : ℕ) (a : Answer) (theirs : List Answer) → slice_get answers place ≡ Some a → slice_get own (place % step) ≡ Some theirs → slice_get theirs (place / step) ≡ Some a

module _ (script : List Op) (step : ℕ) (own : List (List Answer)) (answers : List Answer) (round : IsRound script step own answers) where
  -- the line of a place, as one of its submitter's own
  record OwnLine (place : ℕ) (a : Answer) : Type 0 where
    pub list : List Answer
    pub own_at : slice_get own (place % step) ≡ Some list
    pub answer : slice_get list (place / step) ≡ Some a

  parts : (place : ℕ) → place % step + step * (place / step) ≡ place
  parts place = (let e = div-add-mod place step in omega (arith, e))

  own_line : (place : ℕ) (a : Answer) → slice_get answers place ≡ Some a → OwnLine place a
  own_line place a at =
      let there = slice_get-get_or own (place % step) [] (let m = mod-lt place {m = step} (let s = round.steps in omega (arith, s)) in let c = round.count in omega (arith, m, c)) in
      record { list = slice_index_or own (place % step) []; own_at = there; answer = round.dealt place a _ at there }

  -- a submitter's own line, as one of the script
  whole_line : (k n : ℕ) (theirs : List Answer) (a : Answer) → slice_get own k ≡ Some theirs → slice_get theirs n ≡ Some a → slice_get answers (k + step * n) ≡ Some a
  whole_line k n theirs a own_at at =
      let place = k + step * n in
      let low : place < length answers = (let h = round.inside k n theirs own_at (slice_get_within theirs n a at) in let l = round.long in omega (arith, h, l)) in
      let there : slice_get answers place ≡ Some (slice_index_or answers place a) = slice_get-get_or answers place a low in
      let k_low : k < step = (let h = slice_get_within own k theirs own_at in let c = round.count in omega (arith, h, c)) in
      let turned : n * step + k ≡ place = (let m = mul_comm step n in omega (arith, m)) in
      let row : place / step ≡ n = ap (λ (p : ℕ). p / step) (sym turned) ∙ div-mul-add n step k k_low in
      let column : place % step ≡ k = ap (λ (p : ℕ). p % step) (sym turned) ∙ mod-mul-add n step k k_low in
      let dealt = round.dealt place (slice_index_or answers place a) theirs there (ap (slice_get own) column ∙ own_at) in
      there ∙ (sym dealt ∙ (ap (slice_get theirs) row ∙ at))

  submitter_is : (k n : ℕ) (theirs : List Answer) → slice_get own k ≡ Some theirs → submitter_of step (k + step * n + 1) ≡ k
  submitter_is k n theirs own_at =
      let k_low : k < step = (let h = slice_get_within own k theirs own_at in let c = round.count in omega (arith, h, c)) in
      ap (λ (p : ℕ). p % step) (let m = mul_comm step n in let h : (k + step * n + 1) - 1 ≡ n * step + k = omega (arith, m) in h) ∙ mod-mul-add n step k k_low

  -- ## Answers

  pub all_answered : AreAnswered script answers
  all_answered = record {
    each = round.long;
    fit = λ place op a asked at. (let o = own_line place a at in round.fit (place % step) (place / step) o.list op a o.own_at (ap (slice_get script) (parts place) ∙ asked) o.answer);
  }

  asked_task : (op : Op) → Answers op Accepted → (change : Change) × (op ≡ Task change)
  asked_task (Task change) is = (change, refl)
  asked_task Stop is = absurd is

  -- ## Stops

  module _ (few : stopped_of own ≤ 1) where
    pub stopped_once : (line other : ℕ) → IsAnswered answers line Stopped → IsAnswered answers other Stopped → line ≡ other
    stopped_once line other is are =
        let a = own_line (line - 1) Stopped is.1 in
        let b = own_line (other - 1) Stopped are.1 in
        let w = one_line_stopped own ((line - 1) % step) ((line - 1) / step) ((other - 1) % step) ((other - 1) / step) a.list b.list few a.own_at a.answer b.own_at b.answer in
        let c = parts (line - 1) in
        let d = parts (other - 1) in
        let same : line - 1 ≡ other - 1 = sym c ∙ (ap (λ (k : ℕ). k + step * ((line - 1) / step)) w.0 ∙ (ap (λ (n : ℕ). (other - 1) % step + step * n) w.1 ∙ d)) in
        (let e = is.0 in let f = are.0 in omega (arith, e, f, same))

  pub one_stopped : 1 ≤ stopped_of own → SomeStopped answers
  one_stopped some_ = let w = some_line_stopped own some_ in (w.0 + step * w.1 + 1, (omega arith, subst (λ (p : ℕ). slice_get answers p ≡ Some Stopped) (let h : w.0 + step * w.1 ≡ (w.0 + step * w.1 + 1) - 1 = omega arith in h) (whole_line w.0 w.1 w.2 Stopped w.3 w.4)))

  pub late_is : (place : ℕ) (late : Answer) → IsLate late → slice_get answers place ≡ Some late → (P : Type 0) → ((k n : ℕ) (theirs : List Answer) → slice_get own k ≡ Some theirs → slice_get theirs n ≡ Some late → P) → P
  late_is place late is at P then = let o = own_line place late at in then (place % step) (place / step) o.list o.own_at o.answer

  pub behind_stop : (line stop : ℕ) → IsAnswered answers line Refused ⊎ IsAnswered answers line Already → IsAnswered answers stop Stopped → submitter_of step line ≡ submitter_of step stop → stop < line
  behind_stop line stop late halted same = by_cases late
    where
      of_late : (answer : Answer) → IsLate answer → IsAnswered answers line answer → stop < line
      of_late answer is at =
          let o = own_line (line - 1) answer at.1 in
          let s = own_line (stop - 1) Stopped halted.1 in
          let lists : o.list ≡ s.list = (let e : Some o.list ≡ Some s.list = sym o.own_at ∙ (ap (slice_get own) same ∙ s.own_at) in cc) in
          let first : (stop - 1) / step < (line - 1) / step = round.behind ((line - 1) % step) ((line - 1) / step) ((stop - 1) / step) o.list answer o.own_at o.answer is (subst (λ (x : List Answer). slice_get x ((stop - 1) / step) ≡ Some Stopped) (sym lists) s.answer) in
          let c = parts (line - 1) in
          let d = parts (stop - 1) in
          let rows = mul-le-mul_left step (let h : suc ((stop - 1) / step) ≤ (line - 1) / step = omega (arith, first) in h) in
          let m = mul-suc step ((stop - 1) / step) in
          let some_ = round.steps in
          (let e = at.0 in let f = halted.0 in omega (arith, c, d, rows, m, some_, same, e, f))

      by_cases : IsAnswered answers line Refused ⊎ IsAnswered answers line Already → stop < line
      by_cases (inl at) = of_late Refused tt at
      by_cases (inr at) = of_late Already tt at

  -- ## The order

  module _ (tasks : List queue.Task) (merged : AreMerged (accepted_of step script 0 own) tasks) where
    -- a task of the order, as that of a submitter's line
    record OwnTask (q : ℕ) (t : queue.Task) : Type 0 where
      pub inlist : InList (accepted_of step script 0 own) tasks merged q t
      pub list : List Answer
      pub own_at : slice_get own inlist.c ≡ Some list
      pub there : get_elem? (accepted_from step script inlist.c list) (before inlist.c merged.by q) ≡ some t

    own_task : (q : ℕ) (t : queue.Task) → get_elem? tasks q ≡ some t → OwnTask q t
    own_task q t at =
        let i = in_list (accepted_of step script 0 own) tasks merged q t at in
        let o = of_own step script 0 own i.c i.list i.list_at in
        record { inlist = i; list = o.0; own_at = o.1; there = ap (λ (ts : List queue.Task). get_elem? ts (before i.c merged.by q)) (ap (λ (p : ℕ). accepted_from step script p o.0) (let h : i.c ≡ 0 + i.c = omega arith in h) ∙ o.2) ∙ i.there }

    is_accepted : (q : ℕ) (t : queue.Task) (o : OwnTask q t) → IsAccepted step script o.inlist.c o.list t
    is_accepted q t o = accepted_is step script o.inlist.c o.list (before o.inlist.c merged.by q) t o.there

    submitter_of_task : (q : ℕ) (t : queue.Task) (o : OwnTask q t) → submitter_of step t.line ≡ o.inlist.c
    submitter_of_task q t o = let w = is_accepted q t o in ap (submitter_of step) (line_of_accepted step script o.inlist.c o.list t w) ∙ submitter_is o.inlist.c w.n o.list o.own_at

    -- a task of the order is that of the line of the script that it says
    pub asked_at : (q : ℕ) (t : queue.Task) → get_elem? tasks q ≡ some t → (place : ℕ) × (change : Change) × (slice_get script place ≡ Some (Task change)) × (t ≡ task_on (place + 1) change)
    asked_at q t at = let o = own_task q t at in let w = is_accepted q t o in (o.inlist.c + step * w.n, w.change, w.asked, w.task)

    module _ (order : List ℕ) (lines : order ≡ map (λ (t : queue.Task). t.line) tasks) where
      task_at : (q line : ℕ) → slice_get order q ≡ Some line → (t : queue.Task) × (get_elem? tasks q ≡ some t) × (t.line ≡ line)
      task_at q line at = map_back (λ (t : queue.Task). t.line) tasks q line (got (map (λ (t : queue.Task). t.line) tasks) q line (ap (λ (l : List ℕ). slice_get l q) (sym lines) ∙ at))

      in_order : (line : ℕ) → IsAnswered answers line Accepted → (q : ℕ) × (slice_get order q ≡ Some line)
      in_order line is =
          let place = line - 1 in
          let o = own_line place Accepted is.1 in
          let low : place < length script = (let h = slice_get_within answers place Accepted is.1 in let l = round.long in omega (arith, h, l)) in
          let op = slice_index_or script place Stop in
          let asked : slice_get script (place % step + step * (place / step)) ≡ Some op = ap (slice_get script) (parts place) ∙ slice_get-get_or script place Stop low in
          let task = asked_task op (round.fit (place % step) (place / step) o.list op Accepted o.own_at asked o.answer) in
          let a = accepted_there step script (place % step) o.list (place / step) task.0 o.answer (asked ∙ ap (λ (x : Op). Some x) task.1) in
          let mine = merged.own (place % step) _ (own_tasks step script 0 own (place % step) o.list o.own_at) in
          let p = part_from (place % step) merged.by tasks a.0 _ (ap (λ (ts : List queue.Task). get_elem? ts a.0) (mine ∙ ap (λ (p : ℕ). accepted_from step script p o.list) (let h : 0 + place % step ≡ place % step = omega arith in h)) ∙ a.1) in
          let line_ : (task_on (place % step + step * (place / step) + 1) task.0).line ≡ line = line_is (place % step + step * (place / step) + 1) task.0 ∙ (let c = parts place in let e = is.0 in omega (arith, c, e)) in
          (p.0, ap (λ (l : List ℕ). slice_get l p.0) lines ∙ (got_back _ p.0 _ (map_there (λ (t : queue.Task). t.line) tasks p.0 _ p.1) ∙ ap (λ (n : ℕ). Some n) line_))

      only_accepted : (q line : ℕ) → slice_get order q ≡ Some line → IsAnswered answers line Accepted
      only_accepted q line at =
          let t = task_at q line at in
          let o = own_task q t.0 t.1 in
          let w = is_accepted q t.0 o in
          let l : o.inlist.c + step * w.n + 1 ≡ line = sym (line_of_accepted step script o.inlist.c o.list t.0 w) ∙ t.2 in
          (omega (arith, l), subst (λ (p : ℕ). slice_get answers p ≡ Some Accepted) (let h : o.inlist.c + step * w.n ≡ line - 1 = omega (arith, l) in h) (whole_line o.inlist.c w.n o.list Accepted o.own_at w.answer))

      own_order : (q r line next : ℕ) → slice_get order q ≡ Some line → slice_get order r ≡ Some next → submitter_of step line ≡ submitter_of step next → q < r → line < next
      own_order q r line next at bt same less =
          let t = task_at q line at in
          let u = task_at r next bt in
          let o = own_task q t.0 t.1 in
          let p = own_task r u.0 u.1 in
          let one : o.inlist.c ≡ p.inlist.c = sym (submitter_of_task q t.0 o) ∙ (ap (submitter_of step) t.2 ∙ (same ∙ (ap (submitter_of step) (sym u.2) ∙ submitter_of_task r u.0 p))) in
          let lists : o.list ≡ p.list = (let e : Some o.list ≡ Some p.list = sym o.own_at ∙ (ap (slice_get own) one ∙ p.own_at) in cc) in
          let there : get_elem? (accepted_from step script o.inlist.c o.list) (before o.inlist.c merged.by r) ≡ some u.0 = ap (λ (c : ℕ). get_elem? (accepted_from step script c o.list) (before c merged.by r)) one ∙ (ap (λ (theirs : List Answer). get_elem? (accepted_from step script p.inlist.c theirs) (before p.inlist.c merged.by r)) lists ∙ p.there) in
          let rise = lines_rise step script round.steps o.inlist.c o.list (before o.inlist.c merged.by q) (before o.inlist.c merged.by r) t.0 u.0 o.there there (before_rises o.inlist.c merged.by q r o.inlist.by_c less) in
          (let e = t.2 in let f = u.2 in omega (arith, rise, e, f))

      pub is_order : IsOrder step answers order
      is_order = record { all = in_order; none_else = only_accepted; own = own_order }
