-- The sockets of a script's clients are opened with the links in their order.
use Rattle.std.proofs.Common.{◌≡◌, ℕ, ◌+◌, List, [], ◌∷◌, ◌++◌, length, sym, ap, subst, arith}
use Rattle.brpc_model.specs.Items.{Item}
use Rattle.seat_programs.specs.declared.task.Op.{Op}
use Rattle.seat_programs.specs.declared.task.Op.TheVariants as ops
use Rattle.seat_programs.specs.declared.task.Task.{Task}
use Rattle.seat_programs.specs.ScheduledRuns.{from_to}
use Rattle.seat_programs.specs.ScriptSetupToEnding.{all_tasks}
use Rattle.call_run.specs.Threads.{opens_in}
use Rattle.calls_done.specs.call_whys.specs.call_deeds.specs.ScriptsWithCalls.{IsNextLink, HaveLinks, AllHaveLinks}
use Rattle.script_parts.proofs.LinksInClientOrder.{link_of, links_of, AreLinked, all_linked}
use Rattle.script_parts.proofs.MayCall.{opens_are}

head_or : List ℕ → ℕ
head_or [] = 0
head_or (k ∷ ks) = k

tail_of : List ℕ → List ℕ
tail_of [] = []
tail_of (k ∷ ks) = ks

abbrev AreFrom : ℕ → List ℕ → Type 0
AreFrom first ks = ks ≡ from_to first (length ks)

next_link : (first : ℕ) (op : Op) (ts : List Task) → AreFrom first (link_of op ++ links_of ts) → ((k : ℕ) → AreFrom k (links_of ts) → HaveLinks k ts) → IsNextLink first op × HaveLinks (first + opens_in op) ts
unfolding head_or tail_of
next_link first (ops.Open n k) ts e rest = (ap head_or e, rest (first + 1) (ap tail_of e))
next_link first other ts e rest = let none_ : first ≡ first + 0 = omega arith in (tt, subst (λ (k : ℕ). HaveLinks k ts) none_ (rest first e))

have_links : (first : ℕ) (ts : List Task) → AreFrom first (links_of ts) → HaveLinks first ts
have_links first [] e = tt
have_links first (t ∷ ts) e = next_link first t.op ts e (λ k h. have_links k ts h)

all_have : (first : ℕ) (tss : List (List Task)) → AreLinked first tss → AllHaveLinks first tss
all_have first [] h = tt
all_have first (ts ∷ tss) h = (have_links first ts h.0, subst (λ (k : ℕ). AllHaveLinks (first + k) tss) (sym (opens_are ts)) (all_have (first + length (links_of ts)) tss h.1))

pub script_linked : (script : List Item) → AllHaveLinks 0 (all_tasks script)
script_linked script = all_have 0 (all_tasks script) (all_linked script)
