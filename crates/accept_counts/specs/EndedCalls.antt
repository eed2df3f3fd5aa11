-- Why readers post errors: the reading of their link ended, and they loaded the word that tells where an attempt of a call went.
use Rattle.std.specs.Prelude.{ℕ, ◌≡◌, ◌≢◌, ◌+◌, ◌⊎◌, if◌then◌else◌, nat_le, List, [], ◌∷◌, Contains}
use Rattle.sock_words.specs.ErrorCodes.{EEOF, ERESPONSE}
use mathlib.Core.Option.{Option, none, some}
use lib.ListN.{get_elem?}
use Rattle.sock_words.specs.PackedWords.{at_word_first, at_word_slot, at_word_link, at_word_attempt, call_id}
use Rattle.seat_programs.specs.brpc_model.specs.LinkFailureCauses.{HasFault}
use Rattle.seat_programs.specs.brpc_model.specs.Items.{Item}
use Rattle.seat_programs.specs.brpc_model.specs.Operations.{Turn}
use Rattle.corr_core.specs.IdSlotWord.{error_of}
use Rattle.seat_programs.specs.Asides.{Step, Found, StoreAt, LoadAt, Taking}
use Rattle.seat_programs.specs.FoundAndChangedAside.{found_in}
use Rattle.seat_programs.specs.Programs.{Program, Aside}
use Rattle.seat_programs.specs.Cores.{Calls, Core}
use Rattle.seat_programs.specs.Ticks.{Moment, taken}
use Rattle.seat_programs.specs.ScriptSetupToEnding.{IsRunWithCalls}
use Rattle.call_causes.specs.call_stories.specs.LinkReadingLists.{gave_in, early_of_run, closed_of_run, silent_of_run}
use Rattle.call_causes.specs.call_stories.specs.PostsOfRun.{Post, posted_at}
use Rattle.seat_programs.specs.LoopRounds.{first_step}
use Rattle.call_causes.specs.Below.outcome_stories.specs.Facts.{shown_in_run}

-- ## At words that were loaded

-- a seat loaded the at word of this operation
pub record Load : Type 0 where
  pub seat : ℕ
  pub operation : ℕ
  pub word : ℕ

abbrev pub loads_by : ℕ → (step : Step) → Found step → List Load
loads_by seat (LoadAt o) found = (record { seat = seat; operation = o; word = found }) ∷ []
loads_by seat other found = []

abbrev pub loaded_with : ℕ → Calls → Option Taking → Program → List Load
loaded_with seat a t (Aside step next) = elim (found_in step a t) as (λ o. List Load) [ none ↦ [] | some found ↦ loads_by seat step found ]
loaded_with seat a t other = []

abbrev pub loaded_at : Core → Moment → List Load
loaded_at c m = elim (get_elem? c.seats m.seat) as (λ o. List Load) [ none ↦ [] | some seat ↦ loaded_with m.seat c.calls (taken m.answer) (first_step seat.program) ]

-- ## Posts by readers

-- the readers' seats begin at 32
abbrev pub reader_posts_at : Core → Moment → List Post
reader_posts_at c m = if nat_le 32 m.seat then posted_at c m else []

abbrev pub client_posts_at : Core → Moment → List Post
client_posts_at c m = if nat_le 32 m.seat then [] else posted_at c m

module _ (script : List Item) (turns : List Turn) (end_ : Core) (is : IsRunWithCalls script turns end_) where
  abbrev pub loads_of_run : List Load
  loads_of_run = shown_in_run script turns end_ is loaded_at

  abbrev pub reader_posts_of_run : List Post
  reader_posts_of_run = shown_in_run script turns end_ is reader_posts_at

  abbrev pub client_posts_of_run : List Post
  client_posts_of_run = shown_in_run script turns end_ is client_posts_at

  -- the reading of link k ended with this code
  abbrev pub EndedSo : ℕ → ℕ → Type 0
  EndedSo k code = ((code ≡ EEOF) × (Contains (early_of_run script turns end_ is) k ⊎ (Contains (closed_of_run script turns end_ is) k ⊎ Contains (silent_of_run script turns end_ is) k)))
      ⊎ ((code ≡ ERESPONSE) × HasFault (gave_in end_ k))

  -- the reader of link k posted the error for the at word of operation o, which names its link
  pub record IsEndPost (k o word code : ℕ) (x : Post) : Type 0 where
    pub loaded : Contains loads_of_run (record { seat = 32 + k; operation = o; word = word })
    pub some_ : word ≢ 0
    pub link : at_word_link word ≡ k
    pub id : x.id ≡ call_id (at_word_slot word) (at_word_first word)
    pub error : x.error ≡ error_of code (at_word_attempt word)
    pub ended : EndedSo k code

-- ## At words that were stored

pub record Store : Type 0 where
  pub operation : ℕ
  pub word : ℕ

abbrev pub stores_by : Program → List Store
stores_by (Aside (StoreAt o w) next) = (record { operation = o; word = w }) ∷ []
stores_by other = []

abbrev pub stored_at : Core → Moment → List Store
stored_at c m = elim (get_elem? c.seats m.seat) as (λ o. List Store) [ none ↦ [] | some seat ↦ stores_by (first_step seat.program) ]

abbrev pub stores_of_run : (script : List Item) (turns : List Turn) (end_ : Core) → IsRunWithCalls script turns end_ → List Store
stores_of_run script turns end_ is = shown_in_run script turns end_ is stored_at

-- no attempt has two at words
abbrev pub AreStoredOnce : (script : List Item) (turns : List Turn) (end_ : Core) → IsRunWithCalls script turns end_ → Type 0
AreStoredOnce script turns end_ is = (o v w : ℕ) → Contains (stores_of_run script turns end_ is) (record { operation = o; word = v }) → Contains (stores_of_run script turns end_ is) (record { operation = o; word = w }) → at_word_attempt v ≡ at_word_attempt w → v ≡ w
