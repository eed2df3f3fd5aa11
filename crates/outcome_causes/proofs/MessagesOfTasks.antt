-- The messages that links accepted are those of the tasks and of calls, where no seat has anything left to do.
use Rattle.std.proofs.Common.{◌≡◌, ℕ, zero, suc, ◌<◌, true, false, List, [], ◌∷◌, inl, inr, sym, ap, ◌∙◌, subst, arith}
use Rattle.std.specs.List.{filter}
use Rattle.std.specs.Prelude.{Bool, cond}
use Rattle.std.proofs.lemmas.Bool.{true≢false}
use mathlib.Core.Option.{some, some-injective, some-ne-none}
use lib.ListN.{get_elem?}
use Rattle.brpc_model.specs.Order.{EachBefore}
use Rattle.sock_words.specs.declared.plain.Plan.{Plan}
use Rattle.sock_model.specs.declared.chain.Entry.{Entry}
use Rattle.sock_model.specs.declared.chain.Heading.{Heading}
use Rattle.sock_model.specs.declared.view.View.{View}
use Rattle.seat_programs.specs.declared.task.Task.{Task}
use Rattle.seat_programs.specs.Cores.{Core}
use Rattle.seat_programs.specs.Explained.{AreTasks}
use Rattle.outcome_ticks.specs.program_steps.specs.SoundSeats.{Sound, AllRest}
use Rattle.outcome_ticks.specs.outcome_stories.specs.OperationStories.{Event, In}
use Rattle.outcome_ticks.specs.outcome_stories.specs.KeptStory.{is_of_send, of_sends, IsOfCall, IsSpoken, Story}
use Rattle.outcome_ticks.specs.outcome_stories.proofs.Members.{all_in}
use Rattle.outcome_ticks.specs.outcome_stories.proofs.SendersOfLogEntries.{HasSent, sent_in, EachMade}
use Rattle.outcome_ticks.proofs.Lifted.{filtered_in}
use Rattle.outcome_causes.proofs.Final.{IsMessage, Sends, sends, Sooner}

-- ## Lists

module _ {A : Type 0} where
  pub in_of_at : (xs : List A) (n : ℕ) (x : A) → get_elem? xs n ≡ some x → In x xs
  in_of_at [] n x e = absurd (some-ne-none x (sym e))
  in_of_at (y ∷ ys) zero x e = inl (sym (some-injective y x e))
  in_of_at (y ∷ ys) (suc n) x e = inr (in_of_at ys n x e)

  -- what a filter keeps
  module _ (f : A → Bool) where
    pub filter_has : (xs : List A) (n : ℕ) (x : A) → get_elem? xs n ≡ some x → f x ≡ true → In x (filter f xs)
    filter_has xs n x e = filtered_in f xs x (in_of_at xs n x e)

    tail_before : (R : A → A → Type 0) (b : Bool) (x : A) (xs : List A) → EachBefore R (cond b (x ∷ xs) xs) → EachBefore R xs
    tail_before R true x xs h = h.1
    tail_before R false x xs h = h

    first_before : (R : A → A → Type 0) (b : Bool) (x y : A) (xs : List A) → b ≡ true → EachBefore R (cond b (x ∷ xs) xs) → In y xs → R x y
    first_before R true x y xs e h m = all_in (R x) xs y h.0 m
    first_before R false x y xs e h m = absurd (true≢false (sym e))

    -- of two elements that it keeps, the first stands before the other
    pub filtered_before : (R : A → A → Type 0) (xs : List A) (m n : ℕ) (a b : A) → EachBefore R (filter f xs) → get_elem? xs m ≡ some a → get_elem? xs n ≡ some b → f a ≡ true → f b ≡ true → m < n → R a b
    filtered_before R [] m n a b h g k p q l = absurd (some-ne-none a (sym g))
    filtered_before R (x ∷ xs) m zero a b h g k p q l = absurd (omega arith)
    filtered_before R (x ∷ xs) zero (suc n) a b h g k p q l = let same : x ≡ a = some-injective x a g in subst (λ z. R z b) same (first_before R (f x) x b (filter f xs) (ap f same ∙ p) h (filter_has xs n b k q))
    filtered_before R (x ∷ xs) (suc m) (suc n) a b h g k p q l = filtered_before R xs m n a b (tail_before R (f x) x (filter f xs) h) g k p q (omega arith)

-- ## Where no seat has anything left to do

module _ (p : Plan) (clients : List (List Task)) (are : AreTasks p clients) (over : Bool) (c : Core) (vs : List View) (es : List Event) (broken : List ℕ) (sound : Sound p c vs) (story : Story p clients over c vs es broken) (settled : AllRest c) where
  abbrev pub Message : ℕ → Entry → Type 0
  Message i e = IsMessage p clients are over c vs es broken sound story settled i e

  abbrev pub SendsOf : ℕ → View → Type 0
  SendsOf i v = Sends p clients are over c vs es broken sound story settled i v

  sends_of : (i : ℕ) (v : View) → get_elem? vs i ≡ some v → SendsOf i v
  sends_of i v at = sends p clients are over c vs es broken sound story settled i v at

  pub number_of : (i : ℕ) (e : Entry) (x : Message i e) → e.heading.label.operation ≡ x.task.number
  number_of i e x = ap (λ (h : Heading). h.label.operation) x.of_task.heading

  pub each_made : EachMade vs
  each_made i u at = let s = sends_of i u at in (s.made, s.lists)

  stands_in : (i n : ℕ) (e : Entry) (h : HasSent vs i n e) → get_elem? (sends_of i h.view h.here).made n ≡ some e
  stands_in i n e h = sent_in vs i n e h.view (sends_of i h.view h.here).made h h.here (sends_of i h.view h.here).lists

  -- a message of a send is a task's
  pub message_of : (i n : ℕ) (e : Entry) → HasSent vs i n e → is_of_send e ≡ true → Message i e
  message_of i n e h is = let s = sends_of i h.view h.here in all_in (Message i) (of_sends s.made) e s.are_messages (filter_has is_of_send s.made n e (stands_in i n e h) is)

  -- and any other a call's
  pub call_of : (i n : ℕ) (e : Entry) → HasSent vs i n e → is_of_send e ≡ false → IsSpoken clients e.heading.label.operation
  call_of i n e h is = let s = sends_of i h.view h.here in all_in (IsOfCall (IsSpoken clients)) s.made e s.of_calls (in_of_at s.made n e (stands_in i n e h)) is

  -- of two messages of one seat, the earlier one is that of the earlier operation
  pub sooner : (i m n : ℕ) (a b : Entry) → HasSent vs i m a → HasSent vs i n b → is_of_send a ≡ true → is_of_send b ≡ true → m < n → Sooner a b
  sooner i m n a b g h p q l = let s = sends_of i g.view g.here in
      filtered_before is_of_send Sooner s.made m n a b s.sorted (stands_in i m a g) (sent_in vs i n b g.view s.made h g.here s.lists) p q l
