-- Whatever a seat does on the sockets, messages stay those of ids of the table, and codes below 4,096.
use Rattle.std.proofs.Common.{ℕ, ◌<◌, List, length, length-set, get_or, get_or-set_same, get_or-set_other, set, refl, sym, subst, arith}
use Rattle.std.proofs.lemmas.List.{get_or_past}
use mathlib.Core.Logic.{dite}
use mathlib.Core.Option.{some}
use native.Mathlib.Decide.{ℕ_discrete, dec_le}
use Rattle.sock_words.specs.declared.plain.Plan.{Plan}
use Rattle.seat_programs.specs.sock_model.specs.SocketTableLayout.{code_index}
use Rattle.corr_core.specs.declared.marks.Plan.{Plan as IdPlan}
use Rattle.seat_programs.specs.TableSteps.{TableStep, OnSlot, OnMessage, ClearCode, StoreCode, LoadCode, PutMessage}
use Rattle.seat_programs.specs.Programs.{Program, Do}
use Rattle.seat_programs.specs.TableWords.{TableWord, TagOf, CodeOf}
use Rattle.seat_programs.specs.StepTables.{table_word, word_of, word_after}
use Rattle.seat_programs.specs.Cores.{found_at, words_after}
use Rattle.program_steps.proofs.WordFrame.{IsBelow, leaves, load_leaves, of_other_sort}
use Rattle.id_runs.specs.HeldIdTokens.{IdView}
use Rattle.id_runs.specs.Goes.{FitsSock, FitsOwner, CodesFit, IdGoesOn}
use Rattle.id_runs.proofs.HeadingsAtHomes.{PutFits}

-- ## A step

-- what a view says of a step on the sockets
abbrev pub MaySock : IdPlan → TableStep → Type 0
MaySock q (OnSlot (StoreCode i h c)) = c < 4096
MaySock q (OnMessage (PutMessage r heading bytes)) = FitsOwner q heading
MaySock q other = Unit {0}

module _ (p : Plan) (q : IdPlan) where
  pub steps_on : (u : IdView) (call : TableStep) (next : ℕ → Program) → IdGoesOn p q u (Do call next) → MaySock q call × ((found : ℕ) → FitsSock call found → IdGoesOn p q u (next found))
  steps_on u (OnSlot (StoreCode i h c)) next g = (g.0, λ found _. g.1 found)
  steps_on u (OnMessage (PutMessage r heading bytes)) next g = (g.0, λ found _. g.1 found)
  steps_on u _ next g = (tt, g)

pub puts_fit : (q : IdPlan) (call : TableStep) → MaySock q call → PutFits (FitsOwner q) call
puts_fit q (OnMessage (PutMessage r heading bytes)) may = may
puts_fit q _ may = tt

-- ## Codes

-- where it stores a code, this holds of it
abbrev pub FitsStore : (ℕ → Type 0) → TableStep → Type 0
FitsStore F (OnSlot (StoreCode i h c)) = F c
FitsStore F other = Unit {0}

-- no word stands before those of slots
none_below : (p : Plan) (x : TableWord) → IsBelow p 0 x
none_below p (TagOf i) = tt
none_below p x = tt

module _ (p : Plan) (F : ℕ → Type 0) (none_ : F 0) where
  abbrev pub AllCodes : List ℕ → Type 0
  AllCodes ws = (i : ℕ) → i < p.slots → F (get_or ws (code_index i) 0)

  code_set : (ws : List ℕ) (j w : ℕ) → F w → AllCodes ws → AllCodes (set ws (code_index j) w)
  code_set ws j w new all i inside = dite (ℕ_discrete j i)
      (λ here. subst (λ k. F (get_or (set ws (code_index j) w) (code_index k) 0)) here (dite (dec_le (length ws) (code_index j))
      (λ past. subst F (sym (get_or_past (set ws (code_index j) w) (code_index j) 0 (omega (arith, past, length-set ws (code_index j) w)))) none_)
      (λ n. subst F (sym (get_or-set_same ws (code_index j) w 0 (omega arith))) new)))
      (λ other. subst F (sym (get_or-set_other ws (code_index j) (code_index i) w 0 (λ e. other (omega (arith, e))))) (all i inside))

  -- what holds of each code holds of each behind a step, where it holds of the code that the step stores
  pub each_code : (call : TableStep) → FitsStore F call → (ws : List ℕ) → AllCodes ws → AllCodes (words_after ws (word_of p call) (word_after call (found_at ws (word_of p call))))
  each_code (OnSlot (ClearCode i k)) new ws all = code_set ws i 0 none_ all
  each_code (OnSlot (StoreCode i h c)) new ws all = code_set ws i c new all
  each_code (OnSlot (LoadCode i h)) new ws all = subst AllCodes (sym (load_leaves p ws (some (CodeOf i)))) all
  each_code call new ws all = λ i inside. subst F (sym (leaves p ws (table_word call) (word_after call (found_at ws (word_of p call))) (CodeOf i) inside (λ x e. none_below p x) (of_other_sort 4 call refl (λ e. omega (arith, e))))) (all i inside)

small_code : (q : IdPlan) (call : TableStep) → MaySock q call → FitsStore (λ x. x < 4096) call
small_code q (OnSlot (StoreCode i h c)) may = may
small_code q _ may = tt

pub codes_fit : (p : Plan) (q : IdPlan) (call : TableStep) → MaySock q call → (ws : List ℕ) → CodesFit p ws → CodesFit p (words_after ws (word_of p call) (word_after call (found_at ws (word_of p call))))
codes_fit p q call may ws fit = each_code p (λ x. x < 4096) (omega arith) call (small_code q call may) ws fit
