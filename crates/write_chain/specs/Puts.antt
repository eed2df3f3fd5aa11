-- How far a put comes.
use Rattle.std.specs.Prelude.{◌≡◌, ℕ, ◌++◌, ◌≤◌, List, ◌∷◌}
use Rattle.sock_io.specs.declared.link.Out.{Ghosts}
use Rattle.seat_programs.specs.BufferParts.{part}
use Rattle.message_parts.specs.Parcels.{outgoing_of}
use Rattle.message_parts.specs.declared.parcel.OutgoingParcel.{OutgoingParcel}
use Rattle.write_chain.specs.declared.right.InHand.{InHand}
use Rattle.write_chain.specs.declared.right.LinkCall.{LinkCall}

-- the bytes of it that are put next
abbrev pub next_of : OutgoingParcel → List ℕ
next_of o = part (outgoing_of o).parts (outgoing_of o).left (outgoing_of o).taken

-- the link took this from the front of what was left, and all else in hand is as it was
pub record WentOn {O : Type 0} {g : Ghosts O} (old new : InHand O g) (taken : List ℕ) : Type 0 where
  pub left : (outgoing_of old.bytes).left ≡ taken ++ (outgoing_of new.bytes).left
  pub took : new.home.took.list ≡ old.home.took.list ++ taken
  pub next : new.home.next ≡ old.home.next
  pub link : (g.state new.home.out).link ≡ (g.state old.home.out).link
  pub way : (g.state new.home.out).way ≡ (g.state old.home.out).way
  pub finished : (g.state new.home.out).finished ≡ (g.state old.home.out).finished
  pub later : (g.state old.home.out).faults ≤ (g.state new.home.out).faults
  pub others : (new.link ≡ old.link) × (new.now ≡ old.now) × (new.label ≡ old.label) × (new.owner ≡ old.owner)

-- one call more was made of the message in hand, which came into hand with its link as before
pub record Called {O : Type 0} {g : Ghosts O} (call : LinkCall) (old new : InHand O g) : Type 0 where
  pub calls : new.calls.list ≡ call ∷ old.calls.list
  pub came : new.came.list ≡ old.came.list
