-- The passes of each client: the links that it opens, each of which it alone opens, and once.
use Rattle.std.proofs.Common.{◌≡◌, ℕ, zero, suc, ◌+◌, ◌<◌, ◌≤◌, List, [], ◌∷◌, ◌++◌, refl, sym, ◌∙◌, arith}
use Rattle.std.specs.List.{AllByRecursion}
use mathlib.Core.Logic.{dite}
use native.Mathlib.Decide.{ℕ_discrete, dec_le}
use Rattle.sock_words.specs.declared.plain.Plan.{Plan}
use Rattle.sock_model.specs.MarkWeights.{only}
use Rattle.sock_model.specs.Marks.{without_pass}
use Rattle.sock_model.specs.ViewsOfSplitSeats.{below}
use Rattle.program_walks.specs.brpc_model.specs.Order.{EachBefore}
use Rattle.seat_programs.specs.declared.task.Op.{Op}
use Rattle.seat_programs.specs.declared.task.Op.TheVariants as ops
use Rattle.seat_programs.specs.declared.task.Task.{Task}
use Rattle.seat_programs.specs.Explained.{OpFits, TaskFits, HaveOwnLinks, Differ, AreTasks}
use Rattle.slot_steps.proofs.SlotWeightSums.{total-append}
use Rattle.slot_steps.proofs.RuleNumbers.{only-same, only-else, only-at, only_le}
use Rattle.slot_steps.proofs.OtherSlotsUntouched.{passes-without}
use Rattle.programs_allowed.specs.SeatOpenings.{link_of, links_of, links_of_all, without_passes}
use Rattle.sock_words.specs.Totals.{total}

-- ## Passes that go

pub total_without : (ks ps : List ℕ) → ((k : ℕ) → total (only k) ks ≤ total (only k) ps) → (x : ℕ) → total (only x) (without_passes ks ps) + total (only x) ks ≡ total (only x) ps
total_without [] ps has x = omega arith
total_without (k ∷ ks) ps has x = let pass : 0 < total (only k) ps = omega (arith, has k, only-same k) in
    let ih = total_without ks (without_pass k ps) (λ y. omega (arith, has y, passes-without k y ps pass)) x in omega (arith, ih, passes-without k x ps pass)

pub without_append : (a b ps : List ℕ) → without_passes (a ++ b) ps ≡ without_passes b (without_passes a ps)
without_append [] b ps = refl
without_append (k ∷ ks) b ps = without_append ks b (without_pass k ps)

below_has : (k n : ℕ) → k < n → 1 ≤ total (only k) (below n)
below_has k zero h = absurd (omega (arith, h))
below_has k (suc n) h = dite (ℕ_discrete n k) (λ e. omega (arith, only-at k n e)) (λ ne. omega (arith, below_has k n (omega (arith, h))))

-- ## Links that are opened

module _ (k : ℕ) where
  link_le : (a : Op) → total (only k) (link_of a) ≤ 1
  link_le (ops.Open n x) = omega (arith, only_le k x)
  link_le _ = omega arith

  two_links : (a b : Op) → HaveOwnLinks a b → total (only k) (link_of a) + total (only k) (link_of b) ≤ 1
  two_links (ops.Open n x) (ops.Open m y) own = dite (ℕ_discrete x k) (λ e. dite (ℕ_discrete y k) (λ f. absurd (own (e ∙ sym f))) (λ n. omega (arith, only_le k x, only-else k y n))) (λ n. omega (arith, only_le k y, only-else k x n))
  two_links (ops.Open n x) b own = omega (arith, only_le k x)
  two_links _ b own = omega (arith, link_le b)

  -- a link that one task opens is opened by none of these
  no_later : (R : Task → Type 0) (a : Op) → ((b : Task) → R b → HaveOwnLinks a b.op) → (ts : List Task) → AllByRecursion R ts → 0 < total (only k) (link_of a) → total (only k) (links_of ts) ≡ 0
  no_later R a own [] all some_ = refl
  no_later R a own (t ∷ ts) all some_ = omega (arith, total-append (only k) (link_of t.op) (links_of ts), two_links a t.op (own t all.0), no_later R a own ts all.1 some_, some_)

  own_once : (ts : List Task) → EachBefore (λ (a b : Task). (a.number < b.number) × HaveOwnLinks a.op b.op) ts → total (only k) (links_of ts) ≤ 1
  own_once [] order = omega arith
  own_once (t ∷ ts) order = let sum_ = total-append (only k) (link_of t.op) (links_of ts) in dite (ℕ_discrete (total (only k) (link_of t.op)) 0) (λ z. omega (arith, sum_, z, own_once ts order.1))
      (λ n. omega (arith, sum_, link_le t.op, no_later (λ b. (t.number < b.number) × HaveOwnLinks t.op b.op) t.op (λ b r. r.1) ts order.0 (omega arith)))

  others_not : (ts us : List Task) → AllByRecursion (λ (t : Task). AllByRecursion (Differ t) us) ts → 0 < total (only k) (links_of ts) → total (only k) (links_of us) ≡ 0
  others_not [] us all some_ = absurd (omega (arith, some_))
  others_not (t ∷ ts) us all some_ = dite (ℕ_discrete (total (only k) (link_of t.op)) 0) (λ z. others_not ts us all.1 (omega (arith, some_, z, total-append (only k) (link_of t.op) (links_of ts))))
      (λ n. no_later (Differ t) t.op (λ b r. r.1) us all.0 (omega arith))

  none_of : (ts : List Task) (clients : List (List Task)) → AllByRecursion (λ (us : List Task). AllByRecursion (λ (t : Task). AllByRecursion (Differ t) us) ts) clients → 0 < total (only k) (links_of ts) → total (only k) (links_of_all clients) ≡ 0
  none_of ts [] all some_ = refl
  none_of ts (us ∷ clients) all some_ = omega (arith, total-append (only k) (links_of us) (links_of_all clients), others_not ts us all.0 some_, none_of ts clients all.1 some_)

  all_once : (clients : List (List Task)) → AllByRecursion (EachBefore (λ (a b : Task). (a.number < b.number) × HaveOwnLinks a.op b.op)) clients
      → EachBefore (λ (ts us : List Task). AllByRecursion (λ (t : Task). AllByRecursion (Differ t) us) ts) clients → total (only k) (links_of_all clients) ≤ 1
  all_once [] order differ = omega arith
  all_once (ts ∷ clients) order differ = let sum_ = total-append (only k) (links_of ts) (links_of_all clients) in dite (ℕ_discrete (total (only k) (links_of ts)) 0) (λ z. omega (arith, sum_, z, all_once clients order.1 differ.1))
      (λ n. omega (arith, sum_, own_once ts order.0, none_of ts clients differ.0 (omega arith)))

module _ (p : Plan) (k : ℕ) (past : p.links ≤ k) where
  no_link : (a : Op) → OpFits p a → total (only k) (link_of a) ≡ 0
  no_link (ops.Open n x) fits = let small = fits.1 in omega (arith, only-else k x (λ e. absurd (omega (arith, e, small, past))))
  no_link _ fits = refl

  no_links_of : (ts : List Task) → AllByRecursion (TaskFits p) ts → total (only k) (links_of ts) ≡ 0
  no_links_of [] fit = refl
  no_links_of (t ∷ ts) fit = let one = fit.0 in omega (arith, total-append (only k) (link_of t.op) (links_of ts), no_link t.op one.1, no_links_of ts fit.1)

  no_links_of_all : (clients : List (List Task)) → AllByRecursion (AllByRecursion (TaskFits p)) clients → total (only k) (links_of_all clients) ≡ 0
  no_links_of_all [] fit = refl
  no_links_of_all (ts ∷ clients) fit = omega (arith, total-append (only k) (links_of ts) (links_of_all clients), no_links_of ts fit.0, no_links_of_all clients fit.1)

-- so there are passes enough
pub enough : (p : Plan) (clients : List (List Task)) → AreTasks p clients → (k : ℕ) → total (only k) (links_of_all clients) ≤ total (only k) (below p.links)
enough p clients are k = dite (dec_le p.links k) (λ past. omega (arith, no_links_of_all p k past clients are.fit)) (λ n. omega (arith, all_once k clients are.in_order are.differ, below_has k p.links (omega arith)))
