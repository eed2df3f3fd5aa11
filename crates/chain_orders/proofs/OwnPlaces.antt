-- Where an entry of the log stands in its author's list.
use Rattle.std.proofs.Common.{◌≡◌, ◌≢◌, ℕ, zero, suc, ◌+◌, ◌<◌, cond, eqb, eq-eqb, ne_eqb, List, [], ◌∷◌, length, map, refl, sym, ap, ◌∙◌, subst, arith}
use mathlib.Core.Logic.{dite}
use mathlib.Core.Option.{some, some-injective, some-ne-none}
use native.Mathlib.Decide.{ℕ_discrete, dec_lt}
use lib.ListN.{get_elem?}
use Rattle.sock_model.specs.declared.chain.Entry.{Entry}
use Rattle.sock_model.specs.Authors.{pick}
use Rattle.chain_orders.specs.SentMessages.{Sent, sent_of}
use Rattle.chain_orders.specs.ListsInOneOrder.{part_of}
use Rattle.chain_orders.proofs.MergedLists.{part_here, part_other}

pub at_length : {A : Type 0} (l : List A) (i : ℕ) (a : A) → get_elem? l i ≡ some a → i < length l
at_length [] i a e = absurd (some-ne-none a (sym e))
at_length (x ∷ xs) zero a e = omega arith
at_length (x ∷ xs) (suc i) a e = let h : i < length xs = at_length xs i a e in omega arith

pub at_some : {A : Type 0} (l : List A) (i : ℕ) → i < length l → (a : A) × (get_elem? l i ≡ some a)
at_some [] i h = absurd (omega arith)
at_some (x ∷ xs) zero h = (x, refl)
at_some (x ∷ xs) (suc i) h = at_some xs i (omega arith)

-- how many of the first q are of author a
abbrev pub before : ℕ → List ℕ → ℕ → ℕ
before a [] q = 0
before a (b ∷ bs) zero = 0
before a (b ∷ bs) (suc q) = cond (eqb b a) 1 0 + before a bs q

before_here : (a b : ℕ) (bs : List ℕ) (q : ℕ) → b ≡ a → before a (b ∷ bs) (suc q) ≡ suc (before a bs q)
before_here a b bs q is = ap (λ t. cond t 1 0 + before a bs q) (eq-eqb b a is) ∙ omega arith

before_other : (a b : ℕ) (bs : List ℕ) (q : ℕ) → b ≢ a → before a (b ∷ bs) (suc q) ≡ before a bs q
before_other a b bs q ne = ap (λ t. cond t 1 0 + before a bs q) (ne_eqb b a ne) ∙ omega arith

pick_here : (a b : ℕ) (bs : List ℕ) (e : Entry) (es : List Entry) → b ≡ a → pick a (b ∷ bs) (e ∷ es) ≡ e ∷ pick a bs es
pick_here a b bs e es is = ap (λ t. cond t (e ∷ pick a bs es) (pick a bs es)) (eq-eqb b a is)

pick_other : (a b : ℕ) (bs : List ℕ) (e : Entry) (es : List Entry) → b ≢ a → pick a (b ∷ bs) (e ∷ es) ≡ pick a bs es
pick_other a b bs e es ne = ap (λ t. cond t (e ∷ pick a bs es) (pick a bs es)) (ne_eqb b a ne)

-- an entry stands among those of its author behind the author's earlier ones
pub pick_at : (a : ℕ) (by : List ℕ) (log : List Entry) (q : ℕ) (e : Entry) → get_elem? by q ≡ some a → get_elem? log q ≡ some e → get_elem? (pick a by log) (before a by q) ≡ some e
pick_at a [] log q e f g = absurd (some-ne-none a (sym f))
pick_at a (b ∷ bs) [] q e f g = absurd (some-ne-none e (sym g))
pick_at a (b ∷ bs) (x ∷ xs) zero e f g = ap (λ l. get_elem? l 0) (pick_here a b bs x xs (some-injective b a f)) ∙ g
pick_at a (b ∷ bs) (x ∷ xs) (suc q) e f g = dite (ℕ_discrete b a)
    (λ is. ap (λ l. get_elem? l (before a (b ∷ bs) (suc q))) (pick_here a b bs x xs is) ∙ (ap (get_elem? (x ∷ pick a bs xs)) (before_here a b bs q is) ∙ pick_at a bs xs q e f g))
    (λ ne. ap (λ l. get_elem? l (before a (b ∷ bs) (suc q))) (pick_other a b bs x xs ne) ∙ (ap (get_elem? (pick a bs xs)) (before_other a b bs q ne) ∙ pick_at a bs xs q e f g))

-- of two entries of an author the earlier one stands before
before_rises : (a : ℕ) (by : List ℕ) (q r : ℕ) → get_elem? by q ≡ some a → q < r → before a by q < before a by r
before_rises a [] q r f less = absurd (some-ne-none a (sym f))
before_rises a (b ∷ bs) q zero f less = absurd (omega arith)
before_rises a (b ∷ bs) zero (suc r) f less = let h = before_here a b bs r (some-injective b a f) in omega arith
before_rises a (b ∷ bs) (suc q) (suc r) f less = dite (ℕ_discrete b a)
    (λ is. let h = before_here a b bs q is in let k = before_here a b bs r is in let less_ = before_rises a bs q r f (omega arith) in omega arith)
    (λ ne. let h = before_other a b bs q ne in let k = before_other a b bs r ne in let less_ = before_rises a bs q r f (omega arith) in omega arith)

-- so two that stand at one place are one
pub one_place : (a : ℕ) (by : List ℕ) (q r : ℕ) → get_elem? by q ≡ some a → get_elem? by r ≡ some a → before a by q ≡ before a by r → q ≡ r
one_place a by q r f g same = dite (dec_lt q r)
    (λ lt. absurd (let h = before_rises a by q r f lt in omega arith))
    (λ ge. dite (dec_lt r q)
    (λ lt. absurd (let h = before_rises a by r q g lt in omega arith))
    (λ le. omega arith))

-- an author's list is the part with the author's number
pub picked : (number : ℕ → ℕ) (a c : ℕ) (by : List ℕ) (log : List Entry) → number a ≡ c → ((q b : ℕ) → get_elem? by q ≡ some b → number b ≡ c → b ≡ a) → part_of c (map number by) (map sent_of log) ≡ map sent_of (pick a by log)
picked number a c [] log same only = refl
picked number a c (b ∷ bs) [] same only = refl
picked number a c (b ∷ bs) (e ∷ es) same only =
    let again = picked number a c bs es same (λ q b. only (suc q) b) in
    dite (ℕ_discrete b a)
    (λ is. part_here c (number b) (map number bs) (sent_of e) (map sent_of es) (ap number is ∙ same) ∙ (ap (λ l. sent_of e ∷ l) again ∙ sym (ap (map sent_of) (pick_here a b bs e es is))))
    (λ ne. part_other c (number b) (map number bs) (sent_of e) (map sent_of es) (λ is. ne (only 0 b refl is)) ∙ (again ∙ sym (ap (map sent_of) (pick_other a b bs e es ne))))
