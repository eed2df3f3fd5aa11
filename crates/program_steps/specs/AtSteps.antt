-- Properties of programs that ask something of each step, by what is known of the seat before it.
use Rattle.std.specs.Prelude.{ℕ, List}
use Rattle.seat_programs.specs.sock_io.specs.declared.link.Put.{Put}
use Rattle.seat_programs.specs.sock_io.specs.declared.link.Ready.{Ready}
use Rattle.sock_model.specs.declared.chain.Heading.{Heading}
use Rattle.seat_programs.specs.TableSteps.{TableStep}
use Rattle.seat_programs.specs.Asides.{Step, Found}
use Rattle.seat_programs.specs.LoopHeads.{Head, Exit, Retry}
use Rattle.seat_programs.specs.Programs.{Program, Do, Say, Sent, Rest, TakeMessage, TakeHome, PutHome, PutBytes, AskReady, Write, Aside, Round, Keep, Retries}

-- What is asked at a program's end; of a step on words, by what is known before it and by what holds behind it; where something is said; of a move of a
-- message or a link, or a question to a link; of a loop of writing; of a step aside; of another loop; of a retry that is kept; and where the retries are tried.
pub record Asks (S : Type 0) : Type 1 where
  pub rest : S → Type 0
  pub word : S → TableStep → (ℕ → Program) → (S → ℕ → Type 0) → Type 0
  pub said : S → (S → Type 0) → Type 0
  pub moved : S → (S → Type 0) → Type 0
  pub written : S → (S → Type 0) → Type 0
  pub beside : S → (step : Step) → (Found step → Program) → (S → Found step → Type 0) → Type 0
  pub loop : S → (head : Head) → (S → Exit head → Type 0) → Type 0
  pub kept : S → Retry → (S → Type 0) → Type 0
  pub tried : S → ℕ → (S → Type 0) → Type 0

module _ {S : Type 0} (asks : Asks S) where
  abbrev pub AtSteps : S → Program → Type 0
  AtSteps s (Do call next) = asks.word s call next (λ t found. AtSteps t (next found))
  AtSteps s (Say o outcome next) = asks.said s (λ t. AtSteps t next)
  AtSteps s (Sent o next) = asks.said s (λ t. AtSteps t next)
  AtSteps s Rest = asks.rest s
  AtSteps s (TakeMessage q next) = asks.moved s (λ t. (heading : Heading) (bytes : List ℕ) → AtSteps t (next heading bytes))
  AtSteps s (TakeHome k next) = asks.moved s (λ t. (places : ℕ) → AtSteps t (next places))
  AtSteps s (PutHome k n after) = asks.moved s (λ t. AtSteps t after)
  AtSteps s (PutBytes k asked bytes next) = asks.moved s (λ t. (answer : Put) → AtSteps t (next answer))
  AtSteps s (AskReady k next) = asks.moved s (λ t. (answer : Ready) → AtSteps t (next answer))
  AtSteps s (Write w after) = asks.written s (λ t. AtSteps t after)
  AtSteps s (Aside step next) = asks.beside s step next (λ t found. AtSteps t (next found))
  AtSteps s (Round head next) = asks.loop s head (λ t exit. AtSteps t (next exit))
  AtSteps s (Keep r next) = asks.kept s r (λ t. AtSteps t next)
  AtSteps s (Retries requests after) = asks.tried s requests (λ t. AtSteps t after)

-- Nothing is asked but of a program's end, of steps on words and of loops; and this is known behind the other steps.
abbrev pub asks_words : {S : Type 0} → (S → S) → Type 0 → (S → TableStep → (ℕ → Program) → (S → ℕ → Type 0) → Type 0) → ((head : Head) → (Exit head → Type 0) → Type 0) → Asks S
asks_words stays rest words loops = record {
  rest = λ s. rest;
  word = words;
  said = λ s behind. behind (stays s);
  moved = λ s behind. behind (stays s);
  written = λ s behind. behind (stays s);
  beside = λ s step next behind. (found : Found step) → behind (stays s) found;
  loop = λ s head behind. loops head (behind (stays s));
  kept = λ s r behind. behind (stays s);
  tried = λ s requests behind. behind (stays s);
}
