-- The other end of a link, by what it took and gave.
use Rattle.std.specs.Prelude.{ℕ, ◌≡◌, ◌≢◌, ◌+◌, ◌<◌, ◌⊎◌, ◌&&◌, ◌||◌, not, Bool, true, false, List, [], length, Option, None, IfSome, Result, Ok, Err}
use Rattle.std.specs.Io.KnownBytes.{append_known}
use Rattle.sock_io.specs.declared.ending.Ending.{Ending}
use Rattle.sock_io.specs.declared.ending.Ending.TheVariants as ending
use Rattle.sock_io.specs.declared.link.Served.{Served}
use Rattle.sock_io.specs.declared.link.Served.TheVariants as served
use Rattle.sock_words.specs.declared.memory.NoMemory.{NoMemory}

-- the other end of a link inside this process
pub record PeerState : Type 0 where
  -- whether there is one that `serve` moves
  pub present : Bool
  -- whether it is the built-in server, and after how many responses that gives its end
  pub serve : Bool
  pub end : Option ℕ
  -- which way bytes come to it, and which way its own go, where that is known
  pub way_in : List ℕ
  pub way_out : List ℕ
  -- how many bytes it took from the link
  pub took : ℕ
  -- which they are, where it tells them
  pub took_bytes : Option (List ℕ)
  -- whether it saw that the link was finished
  pub saw_finish : Bool
  -- how many bytes it gave
  pub gave : ℕ
  -- which they are, where it tells them
  pub gave_bytes : Option (List ℕ)
  -- what it gave behind its bytes: nothing so far, its end, or the closing of its half
  pub ending : Ending
  -- whether memory was wanting for it, so that it gave its end and throws away what comes
  pub starved : Bool

-- whether it gave its end or closed its half
abbrev pub has_ended : Ending → Bool
has_ended ending.Open = false
has_ended ending.Ended = true
has_ended ending.Closed = true

-- nothing will be moved any more: it saw the link's finish, and gave its end or closed its half; or there is none
abbrev pub is_done : PeerState → Bool
is_done peer = not peer.present || (has_ended peer.ending && peer.saw_finish)

-- these bytes came behind those before
pub record Grew (old new : ℕ) (old_bytes new_bytes : Option (List ℕ)) (bytes : List ℕ) : Type 0 where
  pub count : new ≡ old + length bytes
  pub known : new_bytes ≡ append_known old_bytes bytes

-- what a call moved: the bytes `taken` came in and the bytes `given` went out, each behind those before, and a mark stays
-- once it is set. It takes no byte behind the link's finish and gives none behind its own end; and it closes its half
-- only where it saw the finish
pub record Moves (old new : PeerState) (taken given : List ℕ) : Type 0 where
  pub present : new.present ≡ old.present
  pub asked : (new.serve ≡ old.serve) × (new.end ≡ old.end)
  pub ways : (new.way_in ≡ old.way_in) × (new.way_out ≡ old.way_out)
  pub took : Grew old.took new.took old.took_bytes new.took_bytes taken
  pub gave : Grew old.gave new.gave old.gave_bytes new.gave_bytes given
  pub finished : old.saw_finish ≡ true → (new.saw_finish ≡ true) × (taken ≡ [])
  pub ended : old.ending ≢ ending.Open → (new.ending ≡ old.ending) × (given ≡ [])
  pub closed : new.ending ≡ ending.Closed → new.saw_finish ≡ true
  -- where there is no other end, nothing moves
  pub absent : old.present ≡ false → new ≡ old

-- what one call may leave
abbrev pub Moved : PeerState → PeerState → Type 0
Moved old new = (taken given : List ℕ) × Moves old new taken given

-- a byte or a mark went in or out
abbrev pub HasMoved : PeerState → PeerState → Type 0
HasMoved old new = (old.took < new.took) ⊎ (old.gave < new.gave) ⊎ (old.saw_finish ≢ new.saw_finish) ⊎ (old.ending ≢ new.ending)

-- What a call may answer, and what it leaves. Want of memory comes once: with it the end is given, and to throw later
-- bytes away takes none.
abbrev pub ServeStep : PeerState → Result Served NoMemory → PeerState → Type 0
ServeStep old (Ok served.Moved) new = Moved old new × HasMoved old new × (is_done new ≡ false) × (new.starved ≡ old.starved)
ServeStep old (Ok served.Waiting) new = (new ≡ old) × (is_done new ≡ false)
ServeStep old (Ok served.Done) new = Moved old new × (is_done new ≡ true) × (new.starved ≡ old.starved)
ServeStep old (Err fault) new = Moved old new × (old.present ≡ true) × (old.ending ≡ ending.Open) × (new.ending ≡ ending.Ended) × (new.starved ≡ true)

-- an other end that took and gave nothing so far
pub record IsNewPeer (peer : PeerState) : Type 0 where
  pub took : peer.took ≡ 0
  pub took_bytes : IfSome peer.took_bytes (λ bytes. bytes ≡ [])
  pub saw_finish : peer.saw_finish ≡ false
  pub gave : peer.gave ≡ 0
  pub gave_bytes : IfSome peer.gave_bytes (λ bytes. bytes ≡ [])
  pub ending : peer.ending ≡ ending.Open
  pub starved : peer.starved ≡ false

-- no other end
abbrev pub no_peer : PeerState
no_peer = record { present = false; serve = false; end = None; way_in = []; way_out = []; took = 0; took_bytes = None; saw_finish = false; gave = 0; gave_bytes = None; ending = ending.Open; starved = false }
