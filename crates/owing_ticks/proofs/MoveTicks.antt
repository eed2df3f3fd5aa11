-- A tick in which a message or a link is taken out of its home, or the link in hand is asked, keeps what is owed.
use Rattle.std.proofs.Common.{◌≡◌, ℕ, inl, inr, ⊎_elim, List, Option, set, refl, sym, subst}
use Rattle.std.specs.List.{AllByRecursion}
use mathlib.Core.Logic.{dite}
use native.Mathlib.Decide.{ℕ_discrete}
use mathlib.Core.Option as core
use mathlib.Core.Option.{none, some, some-ne-none}
use lib.ListN.{get_elem?}
use Rattle.atomic_table.proofs.Lists.{at_set}
use Rattle.sock_model.specs.declared.chain.Heading.{Heading}
use Rattle.sock_model.specs.declared.home.Home.{Home}
use Rattle.sock_model.specs.declared.home.Home.TheVariants.{Message}
use Rattle.corr_core.specs.declared.marks.Plan.{Plan as IdPlan}
use Rattle.seat_programs.specs.Programs.{Program, TakeMessage}
use Rattle.seat_programs.specs.Cores.{Core, SeatState, waiting_at, with_seat}
use Rattle.call_owing.specs.Owing.{Owing, with_known}
use Rattle.call_owing.specs.Owes.{OwesOn}
use Rattle.call_owing.specs.SoundOwing.{Past, SoundOwing, by_seat, by_reader}
use Rattle.call_owing.proofs.PostsAndDecisionsOwed.{same_further, known_further}
use Rattle.call_owing.proofs.OwedMarkChanges.{set_at, past_on}
use Rattle.call_owing.proofs.QuietIdSteps.{marked, same_marks, stored_with}
use Rattle.owing_ticks.proofs.SeatRetriesBehindStep.{Few}
use Rattle.owing_ticks.proofs.TicksKeepOwing.{After, follows}

module _ (q : IdPlan) (life : ℕ → Option ℕ) (calls : List ℕ) (c : Core) (us : List Owing) (sound : SoundOwing q life calls c us) (i : ℕ) (seat : SeatState) (u : Owing) (at_seat : get_elem? c.seats i ≡ some seat) (at : get_elem? us i ≡ some u)
    (few : AllByRecursion Few (waiting_at c.calls.waiting i)) where
  -- the marks stay, the words of the sockets stay, and each message at home is one of before
  pub same_ticks : (program : Program) (hand : List Home) (hs : List (core.Option Home)) → OwesOn life u program
      → ((r : ℕ) (heading : Heading) (bytes : List ℕ) → get_elem? hs r ≡ some (some (Message heading bytes)) → get_elem? c.homes r ≡ some (some (Message heading bytes)))
      → After q life calls c us sound i seat u at_seat at (with_seat i program hand c.words hs c)
  same_ticks program hand hs g homes = follows q life calls c us sound i seat u at_seat at program hand c.words hs c.calls u
      (marked q life calls c us i u sound.law at c.words hs c.seats c.outcomes u (same_marks q life calls c us i u sound.law at c.words hs c.seats c.outcomes (λ k f. f)
      (λ r heading bytes e some_. sound.law.letters r heading bytes (homes r heading bytes e) some_))) g few

  -- what is taken out of a home leaves the others
  pub out_of_home : (r : ℕ) (l : ℕ) (heading : Heading) (bytes : List ℕ) → get_elem? (set c.homes r none) l ≡ some (some (Message heading bytes)) → get_elem? c.homes l ≡ some (some (Message heading bytes))
  out_of_home r l heading bytes e = ⊎_elim (λ b. absurd (some-ne-none (Message heading bytes) (sym b.1))) (λ b. b.1) (at_set c.homes r l none (some (Message heading bytes)) e)

  -- M2: the seat knows the attempt of the message
  pub message_ticks : (r : ℕ) (next : Heading → List ℕ → Program) (heading : Heading) (bytes : List ℕ) → OwesOn life u (TakeMessage r next) → get_elem? c.homes r ≡ some (some (Message heading bytes))
      → After q life calls c us sound i seat u at_seat at (with_seat i (next heading bytes) seat.hand c.words (set c.homes r none) c)
  message_ticks r next heading bytes g here = dite (ℕ_discrete heading.owner 0)
      (λ none_. same_ticks (next heading bytes) seat.hand (set c.homes r none) (g heading bytes u (same_further u) (λ some_. absurd (some_ none_))) (out_of_home r))
      (λ some_. let l = sound.law.letters r heading bytes here some_ in let v : Owing = with_known heading.owner heading.label.attempt u in
      follows q life calls c us sound i seat u at_seat at (next heading bytes) seat.hand c.words (set c.homes r none) c.calls (with_known heading.owner heading.label.attempt u)
      (marked q life calls c us i u sound.law at c.words (set c.homes r none) c.seats c.outcomes (with_known heading.owner heading.label.attempt u) record {
        knows = λ j m a. inr a;
        learns = λ j m a. inl (⊎_elim (λ e. subst (λ x. Past us x m) e.0 (subst (λ x. Past us heading.owner x) e.1 l.0)) (λ b. (i, u, at, b)) a);
        tokens = λ j m a. a;
        distinct = sound.law.distinct i u at;
        owes = λ j m inside is d. by_seat i (with_known heading.owner heading.label.attempt u) (set_at us i u (with_known heading.owner heading.label.attempt u) at) d;
        lefts = λ j m o k s inside is low lives word e left. by_reader o k s i (with_known heading.owner heading.label.attempt u) low lives word (set_at us i u (with_known heading.owner heading.label.attempt u) at) e left;
        letters = λ t h bs e some'. let x = sound.law.letters t h bs (out_of_home r t h bs e) some' in (past_on q life calls c c us i u (with_known heading.owner heading.label.attempt u) sound.law at (λ j m a. inr a) h.owner h.label.attempt x.0, x.1);
        link = refl;
        reads = λ k s e lives x. x;
        failed = λ k f. f;
        dead = λ k e d. sound.law.dead i k u at e d;
        own = stored_with q life calls c us i u sound.law at c.words (set c.homes r none) c.seats c.outcomes (λ k f. f) (λ t h bs e some'. sound.law.letters t h bs (out_of_home r t h bs e) some') (with_known heading.owner heading.label.attempt u) (λ j m a. inr a) u.duty (sound.law.stored i u at);
        keeps = λ e. e;
      }) (g heading bytes (with_known heading.owner heading.label.attempt u) (known_further heading.owner heading.label.attempt u) (λ _. (inl (refl, refl), l.1))) few)
