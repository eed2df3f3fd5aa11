-- The links of the sockets that a script opens are numbered along its clients, one after the other.
use Rattle.std.proofs.Common.{◌≡◌, ℕ, zero, suc, ◌+◌, List, [], ◌∷◌, ◌++◌, length, flat_map, count_by, cond, append-nil, length-append, refl, sym, ap, ◌∙◌, subst, arith}
use Rattle.std.proofs.lemmas.List.Sums.{sum_by-cons}
use Rattle.brpc_model.specs.Items.{Item, Slots, Requests, First, Open, Client, Sched, Tick, To, is_open}
use Rattle.brpc_model.specs.Operations.{link_names}
use Rattle.brpc_model.specs.LinePlaceFaults.{names}
use Rattle.seat_programs.specs.declared.task.Op.{Op}
use Rattle.seat_programs.specs.declared.task.Op.TheVariants as ops
use Rattle.seat_programs.specs.declared.task.Task.{Task}
use Rattle.seat_programs.specs.ScheduledRuns.{from_to}
use Rattle.seat_programs.specs.ScriptSetupToEnding.{all_tasks}
use Rattle.seat_programs.specs.Tasks.{Numbered, numbered, name_number}
use Rattle.callless_fits.specs.sock_deeds.specs.script_facts.proofs.ScriptSizes.{link_count}
use Rattle.script_lang.specs.TasksByLine.{tasks_along, task_at}
use Rattle.script_lang.proofs.ByLine.{tasks_are}
use Rattle.callless_fits.specs.sock_deeds.proofs.Flats.{flat-append}

abbrev pub link_of : Op → List ℕ
link_of (ops.Open n k) = k ∷ []
link_of other = []

-- the links of the sockets that these tasks open, in their order
abbrev pub links_of : List Task → List ℕ
links_of ts = flat_map (λ (t : Task). link_of t.op) ts

pub range-snoc : (first n : ℕ) → from_to first (suc n) ≡ from_to first n ++ (first + n) ∷ []
range-snoc first zero = ap (λ (k : ℕ). k ∷ []) (omega arith)
range-snoc first (suc n) = ap (λ l. first ∷ l) (range-snoc (first + 1) n ∙ ap (λ (k : ℕ). from_to (first + 1) n ++ k ∷ []) (omega arith))

-- those of the first client from this one on, and those of each later client behind them
abbrev pub AreLinked : ℕ → List (List Task) → Type 0
AreLinked first [] = Unit {0}
AreLinked first (ts ∷ tss) = (links_of ts ≡ from_to first (length (links_of ts))) × AreLinked (first + length (links_of ts)) tss

abbrev pub links_in : List (List Task) → ℕ
links_in [] = 0
links_in (ts ∷ tss) = length (links_of ts) + links_in tss

-- ## Along the lines of a script

-- the sockets of a client so far have the links from this one on, and the next socket the one behind them
record Sofar (first link : ℕ) (own : List Task) : Type 0 where
  are : links_of own ≡ from_to first (length (links_of own))
  next : first + length (links_of own) ≡ link

none_opened : (first link : ℕ) (own : List Task) (t : Task) → link_of t.op ≡ [] → Sofar first link own → Sofar first link (own ++ t ∷ [])
none_opened first link own t none_ h =
    let same : links_of own ≡ links_of (own ++ t ∷ []) = sym (append-nil (links_of own)) ∙ ap (λ l. links_of own ++ (l ++ [])) (sym none_) ∙ sym (flat-append (λ (x : Task). link_of x.op) own (t ∷ [])) in record {
      are = subst (λ (l : List ℕ). l ≡ from_to first (length l)) same h.are;
      next = subst (λ (l : List ℕ). first + length l ≡ link) same h.next;
    }

one_opened : (first link : ℕ) (own : List Task) (t : Task) → link_of t.op ≡ link ∷ [] → Sofar first link own → Sofar first (link + 1) (own ++ t ∷ [])
one_opened first link own t one h =
    let more : links_of (own ++ t ∷ []) ≡ links_of own ++ link ∷ [] = flat-append (λ (x : Task). link_of x.op) own (t ∷ []) ∙ ap (λ l. links_of own ++ (l ++ [])) one in
    let n = ap length more ∙ length-append (links_of own) (link ∷ []) in let e = h.next in let longer : suc (length (links_of own)) ≡ length (links_of (own ++ t ∷ [])) = omega arith in record {
      are = more ∙ (ap (λ (k : ℕ). links_of own ++ k ∷ []) (sym e) ∙ (ap (λ l. l ++ (first + length (links_of own)) ∷ []) h.are
          ∙ (sym (range-snoc first (length (links_of own))) ∙ ap (from_to first) longer)));
      next = omega arith;
    }

module _ (all : List Numbered) (ns : List (List ℕ)) where
  along_linked : (number link : ℕ) (own : List Task) (items : List Item) (first : ℕ) → Sofar first link own → AreLinked first (tasks_along all ns number link own items)
  along_linked number link own [] first h = (h.are, tt)
  along_linked number link own (Client ∷ items) first h =
      (h.are, subst (λ (k : ℕ). AreLinked k (tasks_along all ns number link [] items)) (sym h.next) (along_linked number link [] items link record { are = refl; next = omega arith }))
  along_linked number link own (Open name shape ∷ items) first h =
      along_linked (number + 1) (link + 1) (own ++ task_at all ns number link (Open name shape)) items first (one_opened first link own (record { number = number; op = ops.Open (name_number ns name) link }) refl h)
  along_linked number link own (Slots n ∷ items) first h = along_linked number link own items first h
  along_linked number link own (Requests n ∷ items) first h = along_linked number link own items first h
  along_linked number link own (First n ∷ items) first h = along_linked number link own items first h
  along_linked number link own (Sched ∷ items) first h = along_linked number link own items first h
  along_linked number link own (Tick s n ∷ items) first h = along_linked number link own items first h
  along_linked number link own (To s n ∷ items) first h = along_linked number link own items first h
  along_linked number link own (other ∷ items) first h = along_linked (number + 1) link (own ++ task_at all ns number link other) items first (none_opened first link own _ refl h)

  counted : (item : Item) (items : List Item) (n : ℕ) → cond (is_open item) 1 0 ≡ n → count_by is_open (item ∷ items) ≡ n + count_by is_open items
  counted item items n e = sum_by-cons (λ (x : Item). cond (is_open x) 1 0) item items ∙ ap (λ (k : ℕ). k + count_by is_open items) e

  as_many : (a b c : ℕ) (l m : List ℕ) → a ≡ length l + b → l ≡ m ++ [] → c ≡ 0 + b → a ≡ length m + c
  as_many a b c l m e f h = omega (arith, e, ap length f, length-append m [], h)

  along_count : (number link : ℕ) (own : List Task) (items : List Item) → links_in (tasks_along all ns number link own items) ≡ length (links_of own) + count_by is_open items
  along_count number link own [] = refl
  along_count number link own (Client ∷ items) = omega (arith, along_count number link [] items, counted Client items 0 refl)
  along_count number link own (Open name shape ∷ items) =
      let t : Task = record { number = number; op = ops.Open (name_number ns name) link } in
      let n = ap length (flat-append (λ (x : Task). link_of x.op) own (t ∷ [])) ∙ length-append (links_of own) (link ∷ []) in
      omega (arith, along_count (number + 1) (link + 1) (own ++ t ∷ []) items, counted (Open name shape) items 1 refl, n)
  along_count number link own (Slots n ∷ items) = omega (arith, along_count number link own items, counted (Slots n) items 0 refl)
  along_count number link own (Requests n ∷ items) = omega (arith, along_count number link own items, counted (Requests n) items 0 refl)
  along_count number link own (First n ∷ items) = omega (arith, along_count number link own items, counted (First n) items 0 refl)
  along_count number link own (Sched ∷ items) = omega (arith, along_count number link own items, counted Sched items 0 refl)
  along_count number link own (Tick s n ∷ items) = omega (arith, along_count number link own items, counted (Tick s n) items 0 refl)
  along_count number link own (To s n ∷ items) = omega (arith, along_count number link own items, counted (To s n) items 0 refl)
  along_count number link own (other ∷ items) = as_many _ _ _ _ _ (along_count (number + 1) link (own ++ task_at all ns number link other) items) (flat-append (λ (x : Task). link_of x.op) own (task_at all ns number link other)) (counted other items 0 refl)

-- ## The whole script

pub all_linked : (script : List Item) → AreLinked 0 (all_tasks script)
all_linked script = subst (AreLinked 0) (tasks_are script) (along_linked (numbered script) (names script) 0 0 [] script 0 record { are = refl; next = refl })

pub all_links : (script : List Item) → links_in (all_tasks script) ≡ length (link_names script)
all_links script = ap links_in (sym (tasks_are script)) ∙ (along_count (numbered script) (names script) 0 0 [] script ∙ omega (arith, link_count script))
