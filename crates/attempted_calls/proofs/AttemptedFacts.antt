-- What the story of the calls says at one moment of the operation whose call has an id: its word is stored, or a seat stores it next.
use Rattle.std.proofs.Common.{◌≡◌, ◌≢◌, ℕ, ◌<◌, ◌⊎◌, ⊎_elim, List, get_or, sym, ap, ◌∙◌, subst, arith}
use Rattle.std.specs.Prelude as std
use mathlib.Core.Option.{some}
use lib.ListN.{get_elem?}
use Rattle.sock_words.specs.declared.plain.Plan.{Plan}
use Rattle.corr_core.specs.declared.marks.Plan.{Plan as IdPlan}
use Rattle.seat_programs.specs.id_rule.specs.LawfulIdTable.{call_index}
use Rattle.sock_message.specs.Asked.{Asked}
use Rattle.seat_programs.specs.Asides.{PutCall, StoreCall, Found}
use Rattle.seat_programs.specs.Cores.{Core, SeatState}
use Rattle.seat_programs.specs.Programs.{Program, Aside}
use Rattle.own_decisions.specs.Below.programs_allowed.specs.program_steps.proofs.TickCases.{elem_there}
use Rattle.seat_programs.specs.declared.task.Task.{Task}
use Rattle.own_decisions.specs.Below.call_stories.specs.PostsOfRun.{Post}
use Rattle.own_decisions.specs.Below.call_stories.specs.Scenes.{Birth, Scene, IsBorn}
use Rattle.own_decisions.specs.Below.call_stories.specs.Says.{Mark, Claims, Holds}
use Rattle.own_decisions.specs.Below.call_stories.specs.CallStories.{SlotFits, CallStory, HasStory}
use Rattle.own_decisions.specs.Below.story_steps.proofs.BirthTicks.{two_of, one_call}
use Rattle.own_decisions.specs.Below.story_steps.proofs.FirstStepAllowed.{MayFirst, may_first}
use Rattle.own_decisions.specs.accept_counts.specs.AttemptCounts.{word_of_id}
use Rattle.seat_programs.specs.LoopRounds.{first_step}
use Rattle.own_decisions.specs.Below.outcome_stories.specs.OperationStories.{In}
use Rattle.sock_words.specs.PackedWords.{call_id, id_slot}

module _ (q : IdPlan) where
  -- the word of the call has the id
  abbrev pub IsStored : Core → ℕ → ℕ → Type 0
  IsStored c o id = get_or c.calls.words (call_index q o) 0 ≡ id

  -- a seat stores it next
  pub record IsStoring (c : Core) (o id : ℕ) : Type 0 where
    pub seat : ℕ
    pub state : SeatState
    pub next : Found (StoreCall o id) → Program
    pub at : get_elem? c.seats seat ≡ some state
    pub is : state.program ≡ Aside (StoreCall o id) next

  -- the call that is operation o has the id
  pub record IsOwn (c : Core) (o id : ℕ) : Type 0 where
    pub inside : o < q.operations
    pub some_ : id ≢ 0
    pub low : id_slot id < q.slots
    pub either : IsStored c o id ⊎ IsStoring c o id

-- what is so at one moment
pub record Facts (q : IdPlan) (c : Core) : Type 0 where
  -- who stores the word of a call stores the id that is there
  pub one_store : (o id x j : ℕ) (seat : SeatState) (next : Found (StoreCall o x) → Program) → o < q.operations → id ≢ 0 → IsStored q c o id → get_elem? c.seats j ≡ some seat → first_step seat.program ≡ Aside (StoreCall o x) next → x ≡ id
  -- a call at home is that of the range
  pub at_home : (i o : ℕ) (asked : Asked) → i < q.slots → 0 < (word_of_id c.calls.words i).state → get_elem? c.calls.homes i ≡ some (some (std.Some asked)) → IsOwn q c o (call_id i (word_of_id c.calls.words i).first) → o ≡ asked.operation
  -- and so is one that is put back there
  pub put_back : (i o j : ℕ) (asked : Asked) (seat : SeatState) (next : Found (PutCall i asked) → Program) → get_elem? c.seats j ≡ some seat → first_step seat.program ≡ Aside (PutCall i asked) next → (word_of_id c.calls.words i).state ≡ 2 → IsOwn q c o (call_id i (word_of_id c.calls.words i).first) → o ≡ asked.operation

module _ (p : Plan) (q : IdPlan) (clients : List (List Task)) (gives : ℕ → List ℕ) where
  module _ (w : Scene) (ms : List Mark) (story : CallStory p q clients gives w ms) where
    may_at : (j : ℕ) (seat : SeatState) (program : Program) → get_elem? w.core.seats j ≡ some seat → first_step seat.program ≡ program → (m : Mark) × (get_elem? ms j ≡ some m) × MayFirst p q clients gives w m program
    may_at j seat program at is = let m = elem_there w.core.seats ms j seat story.each at in (m.0, m.1, subst (MayFirst p q clients gives w m.0) is (may_first p q clients gives w m.0 seat.program (story.seats j seat m.0 at m.1)))

    storing_birth : (o x j : ℕ) (seat : SeatState) (next : Found (StoreCall o x) → Program) → get_elem? w.core.seats j ≡ some seat → first_step seat.program ≡ Aside (StoreCall o x) next → (b : Birth) × In b w.births × (b.id ≡ x) × (b.asked.operation ≡ o)
    storing_birth o x j seat next at is = let s = may_at j seat (Aside (StoreCall o x) next) at is in let may = s.2 in (may.0, may.9, sym may.8, sym may.7)

    stored_birth : (o id : ℕ) → o < q.operations → id ≢ 0 → IsStored q w.core o id → (b : Birth) × In b w.births × (b.id ≡ id) × (b.asked.operation ≡ o)
    stored_birth o id low some_ stored = let b = story.tasks.called o low (λ z. some_ (sym stored ∙ z)) in (b.0, b.1, b.2 ∙ stored, b.3)

    own_birth : (o id : ℕ) → IsOwn q w.core o id → (b : Birth) × In b w.births × (b.id ≡ id) × (b.asked.operation ≡ o)
    own_birth o id own = ⊎_elim
        (λ stored. stored_birth o id own.inside own.some_ stored)
        (λ (s : IsStoring q w.core o id). storing_birth o id s.seat s.state s.next s.at (ap first_step s.is)) own.either

    -- one operation has one id
    one_id : (a b : Birth) → In a w.births → In b w.births → a.asked.operation ≡ b.asked.operation → a.id ≡ b.id
    one_id a b x y same = ⊎_elim (λ e. ap (λ (z : Birth). z.id) e) (λ apart. absurd (⊎_elim (λ z. z.1 same) (λ z. z.1 (sym same)) apart)) (two_of w.births story.births.apart a b x y)

    -- and one id one operation
    one_operation : (a : Birth) (id : ℕ) (asked : Asked) → In a w.births → a.id ≡ id → IsBorn w id asked → a.asked.operation ≡ asked.operation
    one_operation a id asked x same y = ap (λ (z : Asked). z.operation) (one_call w.births story.births.apart (λ c there. (story.births.born c there).1) a.id a.asked asked x (subst (λ i. In (record { id = i; asked = asked }) w.births) (sym same) y))

    in_scene : Facts q w.core
    in_scene = record {
      one_store = λ o id x j seat next low some_ stored at is. let a = storing_birth o x j seat next at is in let b = stored_birth o id low some_ stored in sym a.2 ∙ (one_id a.0 b.0 a.1 b.1 (a.3 ∙ sym b.3) ∙ b.2);
      at_home = λ i o asked low live lies own. let a = own_birth o (call_id i (word_of_id w.core.calls.words i).first) own in
          sym a.3 ∙ one_operation a.0 (call_id i (word_of_id w.core.calls.words i).first) asked a.1 a.2 (story.births.homes i asked low live lies);
      put_back = λ i o j asked seat next at is two own. let s = may_at j seat (Aside (PutCall i asked) next) at is in let a = own_birth o (call_id i (word_of_id w.core.calls.words i).first) own in ⊎_elim
          (λ claims. absurd (let f : SlotFits q w (Claims i std.None) = subst (SlotFits q w) claims (story.slots.fits j s.0 s.1) in let none_ = f.2 in omega (arith, none_, two)))
          (λ holds. let f : SlotFits q w (Holds i holds.0 holds.1 asked) = subst (SlotFits q w) holds.2 (story.slots.fits j s.0 s.1) in
          sym a.3 ∙ one_operation a.0 (call_id i (word_of_id w.core.calls.words i).first) asked a.1 a.2 (subst (λ x. IsBorn w (call_id i x) asked) (sym f.3) holds.3)) s.2;
    }

  -- so it is at a moment of which the story of the calls is told
  pub facts : (ps : List Post) (ns : List ℕ) (c : Core) → HasStory p q clients gives ps ns c → Facts q c
  facts ps ns c h = subst (Facts q) h.is (in_scene h.scene h.marks h.story)
