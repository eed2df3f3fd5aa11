-- The messages of two threads, by places; and seats that send them.
use Rattle.std.proofs.Common.{◌≡◌, ◌≢◌, ℕ, zero, suc, ◌+◌, ◌*◌, ◌<◌, ◌⊎◌, inl, inr, Bool, true, false, cond, List, [], ◌∷◌, ◌++◌, length, length-append, map, refl, sym, ap, ◌∙◌, subst, arith}
use Rattle.std.specs.Prelude.{Vec, Option, None, Some, slice_get}
use Rattle.std.specs.List.{filter}
use Rattle.std.proofs.lemmas.List.{length-map}
use mathlib.Core.Option.{some, some-injective, some-ne-none}
use lib.ListN.{get_elem?, get_or}
use Rattle.atomic_table.specs.declared.shared.Seat.{Seat}
use Rattle.sock_io.specs.LinkHalves.{OutState}
use Rattle.sock_words.specs.declared.plain.Plan.{Plan}
use Rattle.sock_model.specs.declared.chain.Entry.{Entry}
use Rattle.sock_model.specs.declared.chain.Heading.{Heading}
use Rattle.sock_model.specs.declared.view.View.{View}
use Rattle.sock_model.specs.Rule.{MOST_ACCEPTED}
use Rattle.write_chain.specs.SendingIntoChain.{HasRoom}
use Rattle.chain_orders.specs.SentMessages.{Sent, index_of, sent_of, lists_of, HasSent, sent_by, on_link, SentOneMore}
use Rattle.chain_orders.specs.ListsInOneOrder.{AreMerged}
use Rattle.chain_orders.specs.MessagesInOneOrder.{IndexesDiffer, InOneOrder}
use Rattle.two_senders.specs.SentTexts.{heading_at, text_at, messages, IsShared, TookBoth}

-- ## The messages of a thread

-- one more at the end
snoc_at : (l : List Sent) (x y : Sent) (i : ℕ) → (k : ℕ) → length l ≡ k → get_elem? (l ++ x ∷ []) i ≡ some y → (get_elem? l i ≡ some y) ⊎ ((i ≡ k) × (x ≡ y))
snoc_at [] x y zero k long e = inr (long, some-injective x y e)
snoc_at [] x y (suc i) k long e = absurd (some-ne-none y (sym e))
snoc_at (z ∷ zs) x y zero k long e = inl e
snoc_at (z ∷ zs) x y (suc i) zero long e = absurd (omega arith)
snoc_at (z ∷ zs) x y (suc i) (suc k) long e = elim (snoc_at zs x y i k (omega arith) e) [ inl h ↦ inl h | inr w ↦ inr (ap suc w.0, w.1) ]

snoc_kept : (p : Sent → Bool) (l : List Sent) (x : Sent) → p x ≡ true → filter p l ≡ l → filter p (l ++ x ∷ []) ≡ l ++ x ∷ []
snoc_kept p l x hit all = append_filter l ∙ ap (λ ys. ys ++ x ∷ []) all
  where
    append_filter : (l : List Sent) → filter p (l ++ x ∷ []) ≡ filter p l ++ x ∷ []
    append_filter [] = ap (λ b. cond b (x ∷ []) []) hit
    append_filter (y ∷ ys) = elim (p y) as (λ b. cond b (y ∷ filter p (ys ++ x ∷ [])) (filter p (ys ++ x ∷ [])) ≡ cond b (y ∷ filter p ys) (filter p ys) ++ x ∷ []) [ true ↦ ap (λ l. y ∷ l) (append_filter ys) | false ↦ append_filter ys ]

module _ {A : Type 0} (w : ℕ) (texts : List (Vec ℕ A)) where
  pub messages_long : (n : ℕ) → length (messages w texts n) ≡ n
  messages_long zero = refl
  messages_long (suc n) = omega (arith, length-append (messages w texts n) (record { link = 0; heading = heading_at w n; bytes = text_at texts n } ∷ []), messages_long n)

  -- the m-th message has the m-th place of its thread
  pub message_at : (n m : ℕ) (x : Sent) → get_elem? (messages w texts n) m ≡ some x → index_of x ≡ 2 * m + w
  message_at zero m x e = absurd (some-ne-none x (sym e))
  message_at (suc n) m x e = elim (snoc_at (messages w texts n) _ x m n (messages_long n) e) [
    | inl h ↦ message_at n m x h
    | inr s ↦ ap index_of (sym s.1) ∙ ap (λ k. 2 * k + w) (sym s.0)
  ]

  -- all go to link 0
  pub all_on : (n : ℕ) → on_link 0 (messages w texts n) ≡ messages w texts n
  all_on zero = refl
  all_on (suc n) = snoc_kept (λ (m : Sent). Rattle.std.proofs.Common.eqb m.link 0) (messages w texts n) _ refl (all_on n)

-- the text that was looked up
looked_up : {X : Type 0} (xs : List X) (n : ℕ) (x : X) → n < length xs → x ≡ get_or xs n x → slice_get xs n ≡ Some x
looked_up [] n x low same = absurd (omega arith)
looked_up (y ∷ ys) zero x low same = ap Some (sym same)
looked_up (y ∷ ys) (suc n) x low same = looked_up ys n x (omega arith) same

pub text_there : {A : Type 0} (texts : List (Vec ℕ A)) (n : ℕ) (text : Vec ℕ A) → n < length texts → text ≡ get_or texts n text → text_at texts n ≡ text.items
text_there {A = A} texts n text low same = ap (λ (o : Option (Vec ℕ A)). elim o [ None ↦ [] | Some t ↦ t.items ]) (looked_up texts n text low same)

-- ## Seats

pub room_of : (v : View) (sent : List Sent) → HasSent v sent → length sent < MOST_ACCEPTED → HasRoom v
room_of v sent is low = by_lists v.lists refl is
  where
    by_lists : (ls : List (List Entry)) → v.lists ≡ ls → map (map sent_of) ls ≡ sent ∷ [] → HasRoom v
    by_lists [] same is = absurd (cc)
    by_lists (l ∷ ls) same is = record { made = l; taken_in = ls; lists = same; room = (let a : map sent_of l ≡ sent = first is in let n = length-map l sent_of in let m = ap length a in omega arith) }
      where
        first : map sent_of l ∷ map (map sent_of) ls ≡ sent ∷ [] → map sent_of l ≡ sent
        first e = cc

-- the next message
pub sent_next : {A : Type 0} (p : Plan) (w : ℕ) (texts : List (Vec ℕ A)) (n : ℕ) (heading : Heading) (bytes : List ℕ) (v x : View) → IsShared p → heading ≡ heading_at w n → bytes ≡ text_at texts n → SentOneMore p heading bytes v x → HasSent v (messages w texts n) → HasSent x (messages w texts (suc n))
sent_next p w texts n heading bytes v x shared h b more is =
    let m = more (messages w texts n) [] is in
    let link : m.0 ≡ 0 = (let a = m.1 in let l = shared.0 in omega arith) in
    m.2 ∙ ap (λ (y : Sent). (messages w texts n ++ y ∷ []) ∷ []) (same m.0 link heading h bytes b)
  where
    sent_as : ℕ → Heading → List ℕ → Sent
    sent_as k h b = record { link = k; heading = h; bytes = b }

    same : (k : ℕ) → k ≡ 0 → (heading : Heading) → heading ≡ heading_at w n → (bytes : List ℕ) → bytes ≡ text_at texts n → sent_as k heading bytes ≡ sent_as 0 (heading_at w n) (text_at texts n)
    same k a heading h bytes b = λ i. sent_as (a i) (h i) (b i)

pub next_count : {A : Type 0} (w : ℕ) (texts : List (Vec ℕ A)) (n : ℕ) (v : View) → HasSent v (messages w texts (suc n)) → HasSent v (messages w texts (n + 1))
next_count w texts n v = let e : suc n ≡ n + 1 = omega arith in subst (λ k. HasSent v (messages w texts k)) e

-- ## Both

module _ {A : Type 0} (ones twos : List (Vec ℕ A)) (n m : ℕ) where
  abbrev Both : List (List Sent)
  Both = messages 0 ones n ∷ messages 1 twos m ∷ []

  differ : IndexesDiffer Both
  differ zero zero i j l k x y e f at bt same = (refl, (let a = message_at 0 ones n i x (ap (λ l. get_elem? l i) (some-injective (messages 0 ones n) l e) ∙ at) in let b = message_at 0 ones n j y (ap (λ l. get_elem? l j) (some-injective (messages 0 ones n) k f) ∙ bt) in omega arith))
  differ zero (suc zero) i j l k x y e f at bt same = absurd (let a = message_at 0 ones n i x (ap (λ l. get_elem? l i) (some-injective (messages 0 ones n) l e) ∙ at) in let b = message_at 1 twos m j y (ap (λ l. get_elem? l j) (some-injective (messages 1 twos m) k f) ∙ bt) in omega arith)
  differ (suc zero) zero i j l k x y e f at bt same = absurd (let a = message_at 1 twos m i x (ap (λ l. get_elem? l i) (some-injective (messages 1 twos m) l e) ∙ at) in let b = message_at 0 ones n j y (ap (λ l. get_elem? l j) (some-injective (messages 0 ones n) k f) ∙ bt) in omega arith)
  differ (suc zero) (suc zero) i j l k x y e f at bt same = (refl, (let a = message_at 1 twos m i x (ap (λ l. get_elem? l i) (some-injective (messages 1 twos m) l e) ∙ at) in let b = message_at 1 twos m j y (ap (λ l. get_elem? l j) (some-injective (messages 1 twos m) k f) ∙ bt) in omega arith))
  differ (suc (suc c)) d i j l k x y e f at bt same = absurd (some-ne-none l (sym e))
  differ zero (suc (suc d)) i j l k x y e f at bt same = absurd (some-ne-none k (sym f))
  differ (suc zero) (suc (suc d)) i j l k x y e f at bt same = absurd (some-ne-none k (sym f))

  both_sent : {S : Type 0} (s t : Seat S View) (seats : List (Seat S View)) → seats ≡ s ∷ t ∷ [] → HasSent s.me.0 (messages 0 ones n) → HasSent t.me.0 (messages 1 twos m) → sent_by seats ≡ Both
  both_sent s t seats are a b = ap sent_by are ∙ (ap (λ l. l ++ (lists_of t.me.0 ++ [])) a ∙ ap (λ l. messages 0 ones n ∷ (l ++ [])) b)

  pub both_differ : {S : Type 0} (s t : Seat S View) (seats : List (Seat S View)) → seats ≡ s ∷ t ∷ [] → HasSent s.me.0 (messages 0 ones n) → HasSent t.me.0 (messages 1 twos m) → IndexesDiffer (sent_by seats)
  both_differ s t seats are a b = subst IndexesDiffer (sym (both_sent s t seats are a b)) differ

  pub took_both : {O S : Type 0} (state : O → OutState) (p : Plan) (s t : Seat S View) (seats : List (Seat S View)) (out : O) (outs : List O) → seats ≡ s ∷ t ∷ [] → HasSent s.me.0 (messages 0 ones n) → HasSent t.me.0 (messages 1 twos m)
      → IsShared p → outs ≡ out ∷ [] → InOneOrder state p seats outs → TookBoth state out (messages 0 ones n) (messages 1 twos m)
  took_both state p s t seats out outs are a b shared one all =
      let k = all.each 0 (let l = shared.0 in omega arith) in
      let same : map (on_link 0) (sent_by seats) ≡ Both = ap (map (on_link 0)) (both_sent s t seats are a b) ∙ (ap (λ l. l ∷ on_link 0 (messages 1 twos m) ∷ []) (all_on 0 ones n) ∙ ap (λ l. messages 0 ones n ∷ l ∷ []) (all_on 1 twos m)) in
      let own : k.out ≡ out = some-injective k.out out (sym k.there ∙ ap (λ l. get_elem? l 0) one) in
      record {
        order = on_link 0 all.order;
        merged = subst (λ ls. AreMerged ls (on_link 0 all.order)) same k.merged;
        took = k.took;
        tells = subst (λ o. Rattle.std.specs.Option.ForSome (state o).took (λ bytes. bytes ≡ k.took)) own k.tells;
        took_in = k.took_in;
      }

-- the one that came back
pub last_one : {X : Type 0} (l ms : List X) (x : X) → length l ≡ 1 → l ≡ ms ++ x ∷ [] → l ≡ x ∷ []
last_one l [] x long is = is
last_one l (m ∷ ms) x long is = absurd (let n = length-append ms (x ∷ []) in let e = ap length is in omega arith)
