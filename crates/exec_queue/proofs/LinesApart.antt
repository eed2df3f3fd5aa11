-- Tasks whose lines differ.
use Rattle.std.proofs.Common.{◌≡◌, ◌≢◌, ℕ, zero, suc, ◌≤◌, List, [], ◌∷◌, ◌++◌, length, flat_map, refl, sym, ap, ◌∙◌, arith}
use mathlib.Core.Option.{some, some-injective, some-ne-none}
use lib.ListN.{get_elem?}
use Rattle.exec_queue.specs.declared.task.Task.{Task}
use Rattle.exec_queue.specs.Submitters.{IsFreshLine, LinesDiffer, HasLine}
use Rattle.exec_queue.specs.EndedQueue.{NoLineTwice}
use Rattle.exec_queue.proofs.SubmitterCalls.{up_to, few_up_to, counted}

fresh_at : (line : ℕ) (ts : List Task) → IsFreshLine line ts → (n : ℕ) (u : Task) → get_elem? ts n ≡ some u → u.line ≢ line
fresh_at line [] f n u at e = absurd (some-ne-none u (sym at))
fresh_at line (t ∷ ts) f zero u at e = absurd (f.0 (ap (λ (x : Task). x.line) (some-injective t u at) ∙ e))
fresh_at line (t ∷ ts) f (suc n) u at e = fresh_at line ts f.1 n u at e

differ_at : (ts : List Task) → LinesDiffer ts → (m n : ℕ) (t u : Task) → get_elem? ts m ≡ some t → get_elem? ts n ≡ some u → t.line ≡ u.line → m ≡ n
differ_at [] d m n t u at bt e = absurd (some-ne-none t (sym at))
differ_at (x ∷ xs) d zero zero t u at bt e = refl
differ_at (x ∷ xs) d zero (suc n) t u at bt e = absurd (fresh_at x.line xs d.0 n u bt (sym e ∙ ap (λ (y : Task). y.line) (sym (some-injective x t at))))
differ_at (x ∷ xs) d (suc m) zero t u at bt e = absurd (fresh_at x.line xs d.0 m t at (e ∙ ap (λ (y : Task). y.line) (sym (some-injective x u bt))))
differ_at (x ∷ xs) d (suc m) (suc n) t u at bt e = ap suc (differ_at xs d.1 m n t u at bt e)

-- ## The lists of all submitters

left_fresh : (line : ℕ) (xs ys : List Task) → IsFreshLine line (xs ++ ys) → IsFreshLine line xs
left_fresh line [] ys f = tt
left_fresh line (x ∷ xs) ys f = (f.0, left_fresh line xs ys f.1)

right_fresh : (line : ℕ) (xs ys : List Task) → IsFreshLine line (xs ++ ys) → IsFreshLine line ys
right_fresh line [] ys f = f
right_fresh line (x ∷ xs) ys f = right_fresh line xs ys f.1

left_differ : (xs ys : List Task) → LinesDiffer (xs ++ ys) → LinesDiffer xs
left_differ [] ys d = tt
left_differ (x ∷ xs) ys d = (left_fresh x.line xs ys d.0, left_differ xs ys d.1)

right_differ : (xs ys : List Task) → LinesDiffer (xs ++ ys) → LinesDiffer ys
right_differ [] ys d = d
right_differ (x ∷ xs) ys d = right_differ xs ys d.1

-- one of the left and one of the right
across : (xs ys : List Task) → LinesDiffer (xs ++ ys) → (m n : ℕ) (t u : Task) → get_elem? xs m ≡ some t → get_elem? ys n ≡ some u → t.line ≢ u.line
across [] ys d m n t u at bt e = absurd (some-ne-none t (sym at))
across (x ∷ xs) ys d zero n t u at bt e = absurd (fresh_at x.line ys (right_fresh x.line xs ys d.0) n u bt (sym e ∙ ap (λ (y : Task). y.line) (sym (some-injective x t at))))
across (x ∷ xs) ys d (suc m) n t u at bt e = across xs ys d.1 m n t u at bt e

abbrev all_of : List (List Task) → List Task
all_of tss = flat_map (λ (ts : List Task). ts) tss

right_there : (xs ys : List Task) (n : ℕ) (u : Task) → get_elem? ys n ≡ some u → (i : ℕ) × (get_elem? (xs ++ ys) i ≡ some u)
right_there [] ys n u at = (n, at)
right_there (x ∷ xs) ys n u at = let w = right_there xs ys n u at in (suc w.0, w.1)

left_there : (xs ys : List Task) (n : ℕ) (u : Task) → get_elem? xs n ≡ some u → get_elem? (xs ++ ys) n ≡ some u
left_there [] ys n u at = absurd (some-ne-none u (sym at))
left_there (x ∷ xs) ys zero u at = at
left_there (x ∷ xs) ys (suc n) u at = left_there xs ys n u at

among_all : (tss : List (List Task)) (c n : ℕ) (ts : List Task) (u : Task) → get_elem? tss c ≡ some ts → get_elem? ts n ≡ some u → (i : ℕ) × (get_elem? (all_of tss) i ≡ some u)
among_all [] c n ts u at bt = absurd (some-ne-none ts (sym at))
among_all (xs ∷ xss) zero n ts u at bt = (n, left_there xs (all_of xss) n u (ap (λ (l : List Task). get_elem? l n) (some-injective xs ts at) ∙ bt))
among_all (xs ∷ xss) (suc c) n ts u at bt = let w = among_all xss c n ts u at bt in right_there xs (all_of xss) w.0 u w.1

-- two tasks on one line are one
pub one_line : (tss : List (List Task)) → NoLineTwice tss → (c d m n : ℕ) (ts us : List Task) (t u : Task) → get_elem? tss c ≡ some ts → get_elem? tss d ≡ some us → get_elem? ts m ≡ some t → get_elem? us n ≡ some u → t.line ≡ u.line → (c ≡ d) × (m ≡ n)
one_line [] once c d m n ts us t u a b at bt e = absurd (some-ne-none ts (sym a))
one_line (xs ∷ xss) once zero zero m n ts us t u a b at bt e = (refl, differ_at xs (left_differ xs (all_of xss) once) m n t u (ap (λ (l : List Task). get_elem? l m) (some-injective xs ts a) ∙ at) (ap (λ (l : List Task). get_elem? l n) (some-injective xs us b) ∙ bt) e)
one_line (xs ∷ xss) once zero (suc d) m n ts us t u a b at bt e = let w = among_all xss d n us u b bt in absurd (across xs (all_of xss) once m w.0 t u (ap (λ (l : List Task). get_elem? l m) (some-injective xs ts a) ∙ at) w.1 e)
one_line (xs ∷ xss) once (suc c) zero m n ts us t u a b at bt e = let w = among_all xss c m ts t a at in absurd (across xs (all_of xss) once n w.0 u t (ap (λ (l : List Task). get_elem? l n) (some-injective xs us b) ∙ bt) w.1 (sym e))
one_line (xs ∷ xss) once (suc c) (suc d) m n ts us t u a b at bt e = let r = one_line xss (right_differ xs (all_of xss) once) c d m n ts us t u a b at bt e in (ap suc r.0, r.1)

-- ## How many there are

-- tasks that stand on one line only where they are one
abbrev pub AreApart : List Task → Type 0
AreApart ts = (m n : ℕ) (t u : Task) → get_elem? ts m ≡ some t → get_elem? ts n ≡ some u → t.line ≡ u.line → m ≡ n

fresh_apart : (t : Task) (ts us : List Task) (k : ℕ) → ((n : ℕ) (u : Task) → get_elem? us n ≡ some u → t.line ≢ u.line) → IsFreshLine t.line us
fresh_apart t ts [] k apart = tt
fresh_apart t ts (u ∷ us) k apart = (λ e. apart 0 u refl (sym e), fresh_apart t ts us k (λ n x at. apart (suc n) x at))

lines_differ : (ts : List Task) → AreApart ts → LinesDiffer ts
lines_differ [] apart = tt
lines_differ (t ∷ ts) apart = (fresh_apart t ts ts 0 (λ n u at e. absurd (let z : 0 ≡ suc n = apart 0 (suc n) t u refl at e in omega arith)), lines_differ ts (λ m n x y at bt e. (let z : suc m ≡ suc n = apart (suc m) (suc n) x y at bt e in omega arith)))

few_lines : (n : ℕ) (ts : List Task) → 4096 ≤ n → ((q : ℕ) (t : Task) → get_elem? ts q ≡ some t → HasLine t) → length ts ≤ up_to n ts
few_lines n [] le has = omega arith
few_lines n (t ∷ ts) le has = (let h = has 0 t refl in let low = h.low in let high = h.high in let b = few_lines n ts le (λ q x at. has (suc q) x at) in let c = counted n t ts low (omega arith) in omega arith)

few_for : (n : ℕ) (ts : List Task) → 4096 ≤ n → AreApart ts → ((q : ℕ) (t : Task) → get_elem? ts q ≡ some t → HasLine t) → length ts ≤ n
few_for n ts le apart has = (let a = few_lines n ts le has in let b = few_up_to n ts (lines_differ ts apart) in omega arith)

-- a queue has no more lines
pub few_tasks : (ts : List Task) → AreApart ts → ((q : ℕ) (t : Task) → get_elem? ts q ≡ some t → HasLine t) → length ts ≤ 4096
few_tasks ts apart has = few_for 4096 ts (omega arith) apart has
