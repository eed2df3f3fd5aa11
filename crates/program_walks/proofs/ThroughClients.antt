-- What holds behind an operation of a client, or behind the lives that it gives back, holds before it.
use Rattle.std.proofs.Common.{◌≡◌, ℕ, zero, suc, ◌+◌, ◌==◌, List, [], ◌∷◌, ◌++◌, refl}
use Rattle.std.specs.Prelude as std
use Rattle.std.specs.Prelude.{Some, None}
use Rattle.sock_words.specs.PackedWords.{socket_id_slot}
use Rattle.sock_steps.proofs.SumsAsMarksChange.{either_way}
use Rattle.seat_programs.specs.sock_message.specs.Asked.{Asked}
use Rattle.seat_programs.specs.declared.task.Op.{Op}
use Rattle.seat_programs.specs.declared.task.Op.TheVariants as ops
use Rattle.seat_programs.specs.declared.task.Sizes.{Sizes}
use Rattle.seat_programs.specs.TableSteps.{OnSlot, OnName, OnLink, ClaimSlot, CreateLife, StoreOpen, StoreLink, ResetHead, ClearCode, StoreName, TakeLink, FinishLink, PutLink}
use Rattle.seat_programs.specs.Programs.{Program, Rest, make_socket, open_from, fail}
use Rattle.seat_programs.specs.SendAndWritePrograms.{send}
use Rattle.seat_programs.specs.CallAndRetryPrograms.{call, join}
use Rattle.seat_programs.specs.ClientProgram.{HeldLife, held_under, without_name, give_back, drop_of, operation}
use Rattle.program_walks.proofs.Through.{PassesSteps, PassesWords, PassesPlain, Passes, makes_life, through_release, through_any_failed, through_fail, through_hold, through_drop}
use Rattle.program_walks.proofs.ThroughSends.{through_send}
use Rattle.program_walks.proofs.ThroughCalls.{through_attempt, through_call, through_expire, through_join}

-- What the operations ask that make a socket, send, call, join or fail, each of what it says of itself.
pub record Operates (G : Program → Type 0) (sizes : Sizes) (held : List HeldLife) (o : ℕ) (next : List HeldLife → Program) (op : Op) : Type 0 where
  pub opens : (name k : ℕ) → op ≡ ops.Open name k → G (open_from sizes.slots 0 o name k (next held))
  pub sends : (name : ℕ) (bytes : List ℕ) → op ≡ ops.Send name bytes → G (send sizes.requests o name bytes (next held))
  pub calls : (asked : Asked) → op ≡ ops.Call asked → G (call sizes.requests sizes.ids asked (next held))
  pub joins : (t : ℕ) → op ≡ ops.Join t → G (join o t (next held))
  pub fails : (name code : ℕ) → op ≡ ops.Fail name code → G (fail o name code (next held))

module _ (G : Program → Type 0) (g : PassesWords G) where
  -- where lives may be made
  pub through_open : PassesSteps makes_life G → (more i o name k : ℕ) (next : Program) → G next → G (open_from more i o name k next)
  through_open makes zero i o name k next after = g.step (OnLink (TakeLink k)) _ refl (λ _. g.step (OnLink (FinishLink k)) _ refl (λ _. g.step (OnLink (PutLink k)) _ refl (λ _. makes (OnName (StoreOpen o _)) _ refl (λ _. g.say o _ next after))))
  through_open makes (suc more) i o name k next after = g.step (OnSlot (ClaimSlot i)) _ refl (λ found. either_way (found == 0) (make_socket o name k i next) (open_from more (i + 1) o name k next) G
      (g.step (OnSlot (StoreLink i k)) _ refl (λ _. g.step (OnSlot (ResetHead i k)) _ refl (λ _. g.step (OnSlot (ClearCode i k)) _ refl (λ _. makes (OnSlot (CreateLife i k)) _ refl (λ found. makes (OnName (StoreOpen o _)) _ refl (λ _. g.step (OnName (StoreName name _)) _ refl (λ _. g.say o _ next after)))))))
      (through_open makes more (i + 1) o name k next after))

  pub through_back : G Rest → (held : List HeldLife) → G (give_back held)
  through_back rests [] = rests
  through_back rests (h ∷ hs) = through_release G g (socket_id_slot h.id) (λ _. give_back hs) (λ _. through_back rests hs)

  pub through_drop_of : (o : ℕ) (id : std.Option ℕ) (next : Program) → G next → G (drop_of o id next)
  through_drop_of o None next after = g.say o _ next after
  through_drop_of o (Some id) next after = through_drop G g o id next after

module _ (G : Program → Type 0) (g : PassesPlain G) where
  pub through_operation : (sizes : Sizes) (held : List HeldLife) (o : ℕ) (next : List HeldLife → Program) (op : Op) → ((h : List HeldLife) → G (next h)) → Operates G sizes held o next op → G (operation sizes held o next op)
  through_operation sizes held o next (ops.Open name k) after own = own.opens name k refl
  through_operation sizes held o next (ops.Send name bytes) after own = own.sends name bytes refl
  through_operation sizes held o next (ops.Call asked) after own = own.calls asked refl
  through_operation sizes held o next (ops.Expire t) after own = through_expire G g o t (next held) (after held)
  through_operation sizes held o next (ops.Join t) after own = own.joins t refl
  through_operation sizes held o next (ops.Hold name) after own = through_hold G g.words o name (λ id. next (held ++ (record { name = name; id = id }) ∷ [])) (next held) (λ id. after (held ++ (record { name = name; id = id }) ∷ [])) (after held)
  through_operation sizes held o next (ops.Drop name) after own = through_drop_of G g.words o (held_under name held) (next (without_name name held)) (after (without_name name held))
  through_operation sizes held o next (ops.Fail name code) after own = own.fails name code refl

module _ (G : Program → Type 0) (g : Passes G) where
  pub through_sound_call : (requests ids : ℕ) (asked : Asked) (next : Program) → G next → G (call requests ids asked next)
  through_sound_call requests ids asked next after = through_call G g.sends.plain requests asked next after (λ id socket. through_attempt G g.sends g.stored requests asked id 0 socket next after) ids

  -- where an operation asks something of the socket that it makes at most
  pub through_any : (sizes : Sizes) (held : List HeldLife) (o : ℕ) (next : List HeldLife → Program) (op : Op) → ((h : List HeldLife) → G (next h))
      → ((name k : ℕ) → op ≡ ops.Open name k → G (open_from sizes.slots 0 o name k (next held))) → G (operation sizes held o next op)
  through_any sizes held o next op after opens = through_operation G g.sends.plain sizes held o next op after (record {
    opens = opens;
    sends = λ name bytes e. through_send G g.sends sizes.requests o name bytes (next held) (after held);
    calls = λ asked e. through_sound_call sizes.requests sizes.ids asked (next held) (after held);
    joins = λ t e. through_join G g.sends.plain g.joins o t (next held) (after held);
    fails = λ name code e. through_fail G g.sends.plain.words o name code (next held) (through_any_failed G g code) (after held);
  })
