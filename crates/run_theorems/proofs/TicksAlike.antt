-- A tick depends on what was answered only where a half of a link was asked. So ticks of the same seats in which each asked half answered the same do the same: by the lines of a schedule, and in
-- rounds up to the first one that moved nothing.
use Rattle.std.proofs.Common.{◌≡◌, ◌≢◌, ℕ, ◌+◌, ◌⊎◌, inl, inr, Bool, true, false, List, [], ◌∷◌, ◌++◌, map, ap, sym, subst, refl, ◌∙◌, append_assoc, if◌then◌else◌}
use Rattle.std.proofs.lemmas.Option.{none-some, same_Some}
use Rattle.std.proofs.lemmas.Bool.{true≢false}
use Rattle.std.specs.Prelude as std
use Rattle.std.specs.Prelude.{None}
use mathlib.Core.Option.{Option, some, none}
use mathlib.Core.List.{cons-ne-nil}
use lib.ListN.{get_elem?}
use Rattle.sock_words.specs.declared.plain.Plan.{Plan}
use Rattle.sock_words.specs.KindText.{kind_text}
use Rattle.corr_core.specs.IdSlotWord.{parts, code_of}
use Rattle.corr_core.specs.EndedByRangeOrAttempt.{ends_call}
use Rattle.brpc_model.specs.Items.{Item}
use Rattle.brpc_model.specs.Operations.{Turn, Ticks, Until}
use Rattle.seat_programs.specs.Writings.{Puts, Waits, Empties, Reversing}
use Rattle.seat_programs.specs.Asides.{TakeBytes, PutCall}
use Rattle.seat_programs.specs.LoopHeads.{Head, Exit, Posts, Unlocks, Decides, Locks, Joins, Opens, Reads, Discards, HasEnded}
use Rattle.seat_programs.specs.PostPrograms.{end_id, unlocked}
use Rattle.seat_programs.specs.Programs.{Program, PutBytes, AskReady, Write, Aside, Round}
use Rattle.seat_programs.specs.Cores.{Core, SeatState}
use Rattle.seat_programs.specs.Ticks.{Answer, Moment, seats_of, step_with, tick_with, ticked, run, waits_at, waits}
use Rattle.seat_programs.specs.ScheduledRuns.{IsAtRest, LeadsUpTo, Turns, Scheduled}
use Rattle.seat_programs.specs.Tasks.{plan_of}
use Rattle.seat_programs.specs.ScriptSetupToEnding.{AreStill, EachMoves, Settles, ticks_of, round_of}
use Rattle.run_theorems.specs.LinkAnswers.{asked, said_at, said_in}
use Rattle.owed_calls.specs.call_owing.proofs.EndsStill.{run_parts}
use Rattle.sock_words.specs.PackedWords.{id_slot}

-- ## Lists

-- lists with a first element that are equal
pub same_first : {A : Type 0} (x y : A) (xs ys : List A) → x ∷ xs ≡ y ∷ ys → x ≡ y
same_first x y xs ys e = cc

pub same_others : {A : Type 0} (x y : A) (xs ys : List A) → x ∷ xs ≡ y ∷ ys → xs ≡ ys
same_others x y xs ys e = cc

-- lists that begin with as many of one thing are equal behind that
behind_same : {A : Type 0} (ks : List ℕ) (a b : A) (s t : List A) → map (λ (k : ℕ). a) ks ++ s ≡ map (λ (k : ℕ). b) ks ++ t → s ≡ t
behind_same [] a b s t e = e
behind_same (k ∷ ks) a b s t e = behind_same ks a b s t (same_others a b _ _ e)

-- ## A tick depends on the answer only where a link is asked

abbrev pub Same : Answer → Answer → List ℕ → Type 0
Same a b ks = map (λ (k : ℕ). a) ks ≡ map (λ (k : ℕ). b) ks

module _ (p : Plan) (i : ℕ) (seat : SeatState) (c : Core) (a b : Answer) where
  step_same : (program : Program) → Same a b (asked program) → step_with p i seat c a program ≡ step_with p i seat c b program
  step_same (PutBytes k put bytes next) e = ap (λ (x : Answer). step_with p i seat c x (PutBytes k put bytes next)) (same_first a b [] [] e)
  step_same (AskReady k next) e = ap (λ (x : Answer). step_with p i seat c x (AskReady k next)) (same_first a b [] [] e)
  step_same (Aside (TakeBytes k room) next) e = ap (λ (x : Answer). step_with p i seat c x (Aside (TakeBytes k room) next)) (same_first a b [] [] e)
  step_same (Aside step next) e = refl
  step_same other e = refl

  round_same : (head : Head) (next : Exit head → Program) → Same a b (asked (Round head next)) → tick_with p i seat c a (Round head next) ≡ tick_with p i seat c b (Round head next)
  round_same (Reads r) next e = ap (λ (x : Answer). tick_with p i seat c x (Round (Reads r) next)) (same_first a b [] [] e)
  round_same (Discards k total) next e = ap (λ (x : Answer). tick_with p i seat c x (Round (Discards k total) next)) (same_first a b [] [] e)
  round_same (Posts id error word) next e = refl
  round_same (Unlocks j word advance) next e = refl
  round_same (Decides id call word error) next e =
      let ended : Program = end_id (id_slot id) (next (HasEnded call.operation (code_of error))) in
      let goes_on : Program = Aside (PutCall (id_slot id) call) (λ _. Round (Unlocks (id_slot id) word true) (unlocked (record { id = id; attempt = (parts word).attempt + 1 }) next)) in
      elim (ends_call (parts word) error) as (λ x. step_with p i seat c a (if x then ended else goes_on) ≡ step_with p i seat c b (if x then ended else goes_on)) [ true ↦ refl | false ↦ refl ]
  round_same (Locks j sought (std.Some word)) next e = refl
  round_same (Locks j sought None) next e = refl
  round_same (Joins id) next e = refl
  round_same (Opens o) next e = refl

  same_step : (program : Program) → Same a b (asked program) → tick_with p i seat c a program ≡ tick_with p i seat c b program
  same_step (Write (Waits h now heading left taken) after) e = ap (λ (x : Answer). tick_with p i seat c x (Write (Waits h now heading left taken) after)) (same_first a b [] [] e)
  same_step (Write (Puts h now heading left taken put) after) e = refl
  same_step (Write (Empties h) after) e = refl
  same_step (Write (Reversing h top at after) then_) e = refl
  same_step (Round head next) e = round_same head next e
  same_step (PutBytes k put bytes next) e = step_same (PutBytes k put bytes next) e
  same_step (AskReady k next) e = step_same (AskReady k next) e
  same_step (Aside step next) e = step_same (Aside step next) e
  same_step other e = refl

  -- nor does it depend on it whether the seat waits
  head_waits : (head : Head) (next : Exit head → Program) → Same a b (asked (Round head next)) → waits_at p c a (Round head next) ≡ waits_at p c b (Round head next)
  head_waits (Reads r) next e = ap (λ (x : Answer). waits_at p c x (Round (Reads r) next)) (same_first a b [] [] e)
  head_waits (Discards k total) next e = ap (λ (x : Answer). waits_at p c x (Round (Discards k total) next)) (same_first a b [] [] e)
  head_waits (Locks j sought (std.Some word)) next e = refl
  head_waits (Locks j sought None) next e = refl
  head_waits other next e = refl

  same_waits : (program : Program) → Same a b (asked program) → waits_at p c a program ≡ waits_at p c b program
  same_waits (Write (Waits h now heading left taken) after) e = ap (λ (x : Answer). waits_at p c x (Write (Waits h now heading left taken) after)) (same_first a b [] [] e)
  same_waits (Write (Puts h now heading left taken put) after) e = refl
  same_waits (Write (Empties h) after) e = refl
  same_waits (Write (Reversing h top at after) then_) e = refl
  same_waits (Round head next) e = head_waits head next e
  same_waits other e = refl

-- ## Ticks one after another

pub said_on : (asks : Program → List ℕ) (p : Plan) (c : Core) (xs ys : List Moment) → said_in asks p c (xs ++ ys) ≡ said_in asks p c xs ++ said_in asks p (run p c xs) ys
said_on asks p c [] ys = refl
said_on asks p c (m ∷ ms) ys = ap (λ (later : List Answer). said_at asks c m ++ later) (said_on asks p (ticked p c m) ms ys) ∙ sym (append_assoc (said_at asks c m) (said_in asks p (ticked p c m) ms) (said_in asks p (run p (ticked p c m) ms) ys))

-- two parts of ticks
pub two_parts : (asks : Program → List ℕ) (p : Plan) (c : Core) (xs now later : List Moment) (s : List Answer) → xs ≡ now ++ later → said_in asks p c xs ++ s ≡ said_in asks p c now ++ (said_in asks p (run p c now) later ++ s)
two_parts asks p c xs now later s is = ap (λ (ms : List Moment). said_in asks p c ms ++ s) is ∙ ap (λ (l : List Answer). l ++ s) (said_on asks p c now later) ∙ append_assoc (said_in asks p c now) (said_in asks p (run p c now) later) s

-- of whom a step asks something, one of these hears its answers
abbrev pub Hears : (X : Type 0) → (X → Program → List ℕ) → Type 0
Hears X f = (program : Program) → (asked program ≡ []) ⊎ ((x : X) × (k : ℕ) × (ks : List ℕ) × (f x program ≡ k ∷ ks))

module _ (X : Type 0) (f : X → Program → List ℕ) (hears : Hears X f) where
  -- ## The same answers

  one_same : (program : Program) (a b : Answer) (s t : X → List Answer) → ((x : X) → map (λ (k : ℕ). a) (f x program) ++ s x ≡ map (λ (k : ℕ). b) (f x program) ++ t x) → Same a b (asked program)
  one_same program a b s t e = by_hearer (hears program)
    where
      by_hearer : (asked program ≡ []) ⊎ ((x : X) × (k : ℕ) × (ks : List ℕ) × (f x program ≡ k ∷ ks)) → Same a b (asked program)
      by_hearer (inl none_) = ap (map (λ (k : ℕ). a)) none_ ∙ sym (ap (map (λ (k : ℕ). b)) none_)
      by_hearer (inr (x, k, ks, is)) = ap (λ (z : Answer). map (λ (k : ℕ). z) (asked program))
          (same_first a b _ _ (subst (λ (l : List ℕ). map (λ (k : ℕ). a) l ++ s x ≡ map (λ (k : ℕ). b) l ++ t x) is (e x)))

  -- the ticks do the same, and what is answered behind them is the same
  pub record Alike (p : Plan) (c : Core) (m n : Moment) (s t : X → List Answer) : Type 0 where
    pub same_core : ticked p c m ≡ ticked p c n
    pub same_wait : waits p c m ≡ waits p c n
    pub behind : (x : X) → s x ≡ t x

  module _ (p : Plan) (c : Core) (i : ℕ) (a b : Answer) (s t : X → List Answer) where
    abbrev answers_by : Option SeatState → Answer → X → List Answer
    answers_by o y x = elim o as (λ o. List Answer) [ none ↦ [] | some seat ↦ map (λ (k : ℕ). y) (f x seat.program) ]

    alike_by : (o : Option SeatState) → ((x : X) → answers_by o a x ++ s x ≡ answers_by o b x ++ t x) →
        (elim o as (λ o. Core) [ none ↦ c | some seat ↦ tick_with p i seat c a seat.program ] ≡ elim o as (λ o. Core) [ none ↦ c | some seat ↦ tick_with p i seat c b seat.program ])
        × (elim o as (λ o. Bool) [ none ↦ false | some seat ↦ waits_at p c a seat.program ] ≡ elim o as (λ o. Bool) [ none ↦ false | some seat ↦ waits_at p c b seat.program ])
        × ((x : X) → s x ≡ t x)
    alike_by none e = (refl, refl, e)
    alike_by (some seat) e = let same = one_same seat.program a b s t e in
        (same_step p i seat c a b seat.program same, same_waits p i seat c a b seat.program same, λ x. behind_same (f x seat.program) a b (s x) (t x) (e x))

    alike_at : ((x : X) → said_at (f x) c (record { seat = i; answer = a }) ++ s x ≡ said_at (f x) c (record { seat = i; answer = b }) ++ t x) → Alike p c (record { seat = i; answer = a }) (record { seat = i; answer = b }) s t
    alike_at e = let x = alike_by (get_elem? c.seats i) e in record { same_core = x.0; same_wait = x.1; behind = x.2 }

  pub alike : (p : Plan) (c : Core) (m n : Moment) (s t : X → List Answer) → m.seat ≡ n.seat → ((x : X) → said_at (f x) c m ++ s x ≡ said_at (f x) c n ++ t x) → Alike p c m n s t
  alike p c m n s t same = subst (λ (i : ℕ). ((x : X) → said_at (f x) c m ++ s x ≡ said_at (f x) c (record { seat = i; answer = n.answer }) ++ t x) → Alike p c m (record { seat = i; answer = n.answer }) s t) same (alike_at p c m.seat m.answer n.answer s t)

  -- these ticks were answered the same, and behind them these answers are the same
  abbrev pub SaidSame : Plan → Core → List Moment → List Moment → (X → List Answer) → (X → List Answer) → Type 0
  SaidSame p c xs ys s t = (x : X) → said_in (f x) p c xs ++ s x ≡ said_in (f x) p c ys ++ t x

  -- the same of the first of more ticks
  pub first_alike : (p : Plan) (c : Core) (m n : Moment) (ms ns : List Moment) (s t : X → List Answer) → m.seat ≡ n.seat → SaidSame p c (m ∷ ms) (n ∷ ns) s t →
      Alike p c m n (λ x. said_in (f x) p (ticked p c m) ms ++ s x) (λ x. said_in (f x) p (ticked p c m) ns ++ t x)
  first_alike p c m n ms ns s t same e =
      let y = alike p c m n (λ x. said_in (f x) p (ticked p c m) ms ++ s x) (λ x. said_in (f x) p (ticked p c n) ns ++ t x) same
      (λ x. sym (append_assoc (said_at (f x) c m) (said_in (f x) p (ticked p c m) ms) (s x)) ∙ e x ∙ append_assoc (said_at (f x) c n) (said_in (f x) p (ticked p c n) ns) (t x)) in
      record { same_core = y.same_core; same_wait = y.same_wait; behind = λ x. subst (λ (d : Core). said_in (f x) p (ticked p c m) ms ++ s x ≡ said_in (f x) p d ns ++ t x) (sym y.same_core) (y.behind x) }

  -- ## Ticks of seats

  -- these ticks end in one core, and what is answered behind them is the same
  abbrev pub EndAlike : Plan → Core → List Moment → List Moment → (X → List Answer) → (X → List Answer) → Type 0
  EndAlike p c xs ys s t = (run p c xs ≡ run p c ys) × ((x : X) → s x ≡ t x)

  more_alike : (p : Plan) (c : Core) (m n : Moment) (ms ns : List Moment) (s t : X → List Answer) → ticked p c m ≡ ticked p c n → EndAlike p (ticked p c m) ms ns s t → EndAlike p c (m ∷ ms) (n ∷ ns) s t
  more_alike p c m n ms ns s t same y = (y.0 ∙ ap (λ (d : Core). run p d ns) same, y.1)

  pub one_ticks : (p : Plan) (xs ys : List Moment) (c : Core) (s t : X → List Answer) → seats_of xs ≡ seats_of ys → SaidSame p c xs ys s t → EndAlike p c xs ys s t
  one_ticks p [] [] c s t same e = (refl, e)
  one_ticks p [] (n ∷ ns) c s t same e = absurd (cons-ne-nil _ _ (sym same))
  one_ticks p (m ∷ ms) [] c s t same e = absurd (cons-ne-nil _ _ same)
  one_ticks p (m ∷ ms) (n ∷ ns) c s t same e =
      let y = first_alike p c m n ms ns s t (same_first m.seat n.seat _ _ same) e in
      more_alike p c m n ms ns s t y.same_core (one_ticks p ms ns (ticked p c m) s t (same_others m.seat n.seat _ _ same) y.behind)

  -- ## A schedule

  one_lead : (p : Plan) (i : ℕ) (kind : List ℕ) (xs ys : List Moment) (c : Core) (s t : X → List Answer) → LeadsUpTo p i kind c xs → LeadsUpTo p i kind c ys → SaidSame p c xs ys s t → EndAlike p c xs ys s t
  one_lead p i kind [] [] c s t h k e = (refl, e)
  one_lead p i kind [] (n ∷ ns) c s t h k e = absurd (none-some _ (sym h ∙ k.2))
  one_lead p i kind (m ∷ ms) [] c s t h k e = absurd (none-some _ (sym k ∙ h.2))
  one_lead p i kind (m ∷ ms) (n ∷ ns) c s t h k e =
      let y = first_alike p c m n ms ns s t (h.0 ∙ sym k.0) e in
      more_alike p c m n ms ns s t y.same_core (behind y (λ leads leads'. one_lead p i kind ms ns (ticked p c m) s t leads leads' y.behind) h.3 k.3)
    where
      same_kind : kind_text h.1 ≡ kind_text k.1
      same_kind = ap kind_text (same_Some h.1 k.1 (sym h.2 ∙ k.2))

      behind : Alike p c m n (λ x. said_in (f x) p (ticked p c m) ms ++ s x) (λ x. said_in (f x) p (ticked p c m) ns ++ t x)
          → (LeadsUpTo p i kind (ticked p c m) ms → LeadsUpTo p i kind (ticked p c m) ns → EndAlike p (ticked p c m) ms ns s t)
          → (((waits p c m ≡ true) ⊎ (kind_text h.1 ≡ kind)) × (ms ≡ [])) ⊎ ((waits p c m ≡ false) × (kind_text h.1 ≢ kind) × LeadsUpTo p i kind (ticked p c m) ms)
          → (((waits p c n ≡ true) ⊎ (kind_text k.1 ≡ kind)) × (ns ≡ [])) ⊎ ((waits p c n ≡ false) × (kind_text k.1 ≢ kind) × LeadsUpTo p i kind (ticked p c n) ns)
          → EndAlike p (ticked p c m) ms ns s t
      behind y further (inl (stop, none_)) (inl (stop', none_')) = one_ticks p ms ns (ticked p c m) s t (ap seats_of none_ ∙ sym (ap seats_of none_')) y.behind
      behind y further (inl (inl wait, none_)) (inr (goes, other, leads)) = absurd (true≢false (sym wait ∙ y.same_wait ∙ goes))
      behind y further (inl (inr same, none_)) (inr (goes, other, leads)) = absurd (other (sym same_kind ∙ same))
      behind y further (inr (goes, other, leads)) (inl (inl wait, none_)) = absurd (true≢false (sym wait ∙ sym y.same_wait ∙ goes))
      behind y further (inr (goes, other, leads)) (inl (inr same, none_)) = absurd (other (same_kind ∙ same))
      behind y further (inr (goes, other, leads)) (inr (goes', other', leads')) =
          further leads (subst (λ (d : Core). LeadsUpTo p i kind d ns) (sym y.same_core) leads')

  one_turn : (p : Plan) (c : Core) (turn : Turn) (xs ys : List Moment) (s t : X → List Answer) → Turns p c turn xs → Turns p c turn ys → SaidSame p c xs ys s t → EndAlike p c xs ys s t
  one_turn p c (Ticks i n) xs ys s t h k e = one_ticks p xs ys c s t (h ∙ sym k) e
  one_turn p c (Until i kind) xs ys s t h k e = one_lead p i kind xs ys c s t h k e

  -- ticks in two parts, of which the first end in one core
  pub then_alike : (p : Plan) (c : Core) (xs now later ys now' later' : List Moment) (s t : X → List Answer) → xs ≡ now ++ later → ys ≡ now' ++ later'
      → EndAlike p c now now' (λ x. said_in (f x) p (run p c now) later ++ s x) (λ x. said_in (f x) p (run p c now') later' ++ t x)
      → (SaidSame p (run p c now') later later' s t → EndAlike p (run p c now') later later' s t) → EndAlike p c xs ys s t
  then_alike p c xs now later ys now' later' s t is is' first rest =
      let y = rest (λ x. subst (λ (d : Core). said_in (f x) p d later ++ s x ≡ said_in (f x) p (run p c now') later' ++ t x) first.0 (first.1 x)) in
      (ap (run p c) is ∙ run_parts p c now later ∙ ap (λ (d : Core). run p d later) first.0 ∙ y.0 ∙ sym (run_parts p c now' later') ∙ sym (ap (run p c) is'), y.1)

  pub in_parts : (p : Plan) (c : Core) (xs now later ys now' later' : List Moment) (s t : X → List Answer) → xs ≡ now ++ later → ys ≡ now' ++ later' → SaidSame p c xs ys s t
      → SaidSame p c now now' (λ x. said_in (f x) p (run p c now) later ++ s x) (λ x. said_in (f x) p (run p c now') later' ++ t x)
  in_parts p c xs now later ys now' later' s t is is' e x = sym (two_parts (f x) p c xs now later (s x) is) ∙ e x ∙ two_parts (f x) p c ys now' later' (t x) is'

  pub one_schedule : (p : Plan) (turns : List Turn) (c : Core) (xs ys : List Moment) (s t : X → List Answer) → Scheduled p c turns xs → Scheduled p c turns ys → SaidSame p c xs ys s t → EndAlike p c xs ys s t
  one_schedule p [] c xs ys s t h k e = one_ticks p xs ys c s t (ap seats_of h ∙ sym (ap seats_of k)) e
  one_schedule p (turn ∷ turns) c xs ys s t h k e =
      let now = one_turn p c turn h.0 k.0 (λ x. said_in (f x) p (run p c h.0) h.1 ++ s x) (λ x. said_in (f x) p (run p c k.0) k.1 ++ t x) h.3 k.3 (in_parts p c xs h.0 h.1 ys k.0 k.1 s t h.2 k.2 e) in
      then_alike p c xs h.0 h.1 ys k.0 k.1 s t h.2 k.2 now (λ same. one_schedule p turns (run p c k.0) h.1 k.1 s t (subst (λ (d : Core). Scheduled p d turns h.1) now.0 h.4) k.4 same)

  -- ## Rounds up to the first that moved nothing

  -- ticks that were answered the same move nothing where the others don't
  same_still : (p : Plan) (xs ys : List Moment) (c : Core) (s t : X → List Answer) → seats_of xs ≡ seats_of ys → SaidSame p c xs ys s t → AreStill p c xs → AreStill p c ys
  same_still p [] [] c s t same e h = tt
  same_still p [] (n ∷ ns) c s t same e h = absurd (cons-ne-nil _ _ (sym same))
  same_still p (m ∷ ms) [] c s t same e h = absurd (cons-ne-nil _ _ same)
  same_still p (m ∷ ms) (n ∷ ns) c s t same e h =
      let seat = same_first m.seat n.seat _ _ same in
      let y = first_alike p c m n ms ns s t seat e in
      (still_one seat y.same_wait h.0, subst (λ (d : Core). AreStill p d ns) y.same_core (same_still p ms ns (ticked p c m) s t (same_others m.seat n.seat _ _ same) y.behind h.1))
    where
      still_one : m.seat ≡ n.seat → waits p c m ≡ waits p c n → IsAtRest c m.seat ⊎ (waits p c m ≡ true) → IsAtRest c n.seat ⊎ (waits p c n ≡ true)
      still_one seat wait (inl rest) = inl (subst (IsAtRest c) seat rest)
      still_one seat wait (inr waits_) = inr (sym wait ∙ waits_)

  -- behind a round, the ticks of later rounds and these
  behind_round : (now : List Moment) (later : List (List Moment)) (last : List Moment) → ticks_of (now ∷ later) ++ last ≡ now ++ (ticks_of later ++ last)
  behind_round now later last = append_assoc now (ticks_of later) last

  still_behind : (p : Plan) (c : Core) (now : List Moment) (later : List (List Moment)) (last : List Moment) → AreStill p (run p c (ticks_of (now ∷ later))) last → AreStill p (run p (run p c now) (ticks_of later)) last
  still_behind p c now later last = subst (λ (d : Core). AreStill p d last) (run_parts p c now (ticks_of later))

  module _ (script : List Item) where
    abbrev p : Plan
    p = plan_of script

    -- a last round moves nothing, where another that was answered the same would move something
    no_round : (c : Core) (last now later : List Moment) (s t : X → List Answer) → seats_of last ≡ round_of script → AreStill p c last → seats_of now ≡ round_of script → (AreStill p c now → ⊥) → SaidSame p c last (now ++ later) s t → ⊥
    no_round c last now later s t seats still seats' moves e = moves (same_still p last now c s (λ x. said_in (f x) p (run p c now) later ++ t x) (seats ∙ sym seats') (λ x. e x ∙ two_parts (f x) p c (now ++ later) now later (t x) refl) still)

    rounds_alike : (rounds rounds' : List (List Moment)) (last last' : List Moment) (c : Core) (s t : X → List Answer) → EachMoves script c rounds → EachMoves script c rounds' → seats_of last ≡ round_of script → seats_of last' ≡ round_of script →
        AreStill p (run p c (ticks_of rounds)) last → AreStill p (run p c (ticks_of rounds')) last' → SaidSame p c (ticks_of rounds ++ last) (ticks_of rounds' ++ last') s t → EndAlike p c (ticks_of rounds ++ last) (ticks_of rounds' ++ last') s t
    rounds_alike [] [] last last' c s t h k seats seats' still still' e = one_ticks p last last' c s t (seats ∙ sym seats') e
    rounds_alike [] (now' ∷ later') last last' c s t h k seats seats' still still' e =
        absurd (no_round c last now' (ticks_of later' ++ last') s t seats still k.0 k.1 (subst (λ (ys : List Moment). SaidSame p c last ys s t) (behind_round now' later' last') e))
    rounds_alike (now ∷ later) [] last last' c s t h k seats seats' still still' e =
        absurd (no_round c last' now (ticks_of later ++ last) t s seats' still' h.0 h.1 (λ x. sym (subst (λ (ys : List Moment). SaidSame p c ys last' s t) (behind_round now later last) e x)))
    rounds_alike (now ∷ later) (now' ∷ later') last last' c s t h k seats seats' still still' e =
        let xs = ticks_of (now ∷ later) ++ last in
        let ys = ticks_of (now' ∷ later') ++ last' in
        let is = behind_round now later last in
        let is' = behind_round now' later' last' in
        let first = one_ticks p now now' c (λ x. said_in (f x) p (run p c now) (ticks_of later ++ last) ++ s x) (λ x. said_in (f x) p (run p c now') (ticks_of later' ++ last') ++ t x) (h.0 ∙ sym k.0)
        (in_parts p c xs now (ticks_of later ++ last) ys now' (ticks_of later' ++ last') s t is is' e) in
        then_alike p c xs now (ticks_of later ++ last) ys now' (ticks_of later' ++ last') s t is is' first
        (λ same. rounds_alike later later' last last' (run p c now') s t (subst (λ (d : Core). EachMoves script d later) first.0 h.2) k.2 seats seats'
        (subst (λ (d : Core). AreStill p (run p d (ticks_of later)) last) first.0 (still_behind p c now later last still)) (still_behind p c now' later' last' still') same)

    pub one_settling : (c : Core) (xs ys : List Moment) (s t : X → List Answer) → Settles script c xs → Settles script c ys → SaidSame p c xs ys s t → EndAlike p c xs ys s t
    one_settling c xs ys s t h k e =
        let same : SaidSame p c (ticks_of h.moving ++ h.last) (ticks_of k.moving ++ k.last) s t = λ x. sym (ap (λ (l : List Moment). said_in (f x) p c l ++ s x) h.all) ∙ e x ∙ ap (λ (l : List Moment). said_in (f x) p c l ++ t x) k.all in
        let y = rounds_alike h.moving k.moving h.last k.last c s t h.each_moves k.each_moves h.one_more k.one_more h.still k.still same in
        (ap (run p c) h.all ∙ y.0 ∙ sym (ap (run p c) k.all), y.1)
