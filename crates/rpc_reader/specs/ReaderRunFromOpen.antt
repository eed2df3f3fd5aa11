-- A reader's run, from the word of its `open` to what it throws away.
use Rattle.std.specs.Prelude.{◌≡◌, ℕ, Bool, true, false, List, Option, Some, None}
use Rattle.sock_words.specs.declared.plain.Plan.{Plan}
use Rattle.sock_words.specs.declared.socket_id.SocketId.{SocketId}
use Rattle.sock_model.specs.declared.view.View.{View}
use Rattle.corr_core.specs.declared.marks.Plan as ids
use Rattle.sock_io.specs.LinkHalves.{InState}
use Rattle.rpc_reader.specs.declared.reading.How.{How}
use Rattle.rpc_reader.specs.declared.reading.How.TheVariants as how
use Rattle.rpc_reader.specs.ReaderBooks.{Books}
use Rattle.rpc_reader.specs.ReaderSocketFailing.{OpenedBy, FailedBy}
use Rattle.rpc_reader.specs.LinkReading.{ReadBy, code_of}
use Rattle.rpc_reader.specs.PostingAtReadingEnd.{PostedAll}
use Rattle.rpc_reader.specs.Throwing.{ThrewAway}

-- the socket of a link that was finished, or of a run that is ending, has been failed
abbrev pub fails : How → Bool
fails how.Closed = false
fails how.Empty = false
fails _ = true

-- behind these more may come
abbrev pub throws : How → Bool
throws how.Fault = true
throws how.NoMemory = true
throws _ = false

abbrev pub is_starved : How → Bool
is_starved how.NoMemory = true
is_starved _ = false

abbrev pub FailedIf : Bool → ℕ → ℕ → View → View → Type 0
FailedIf true id code v w = FailedBy id code v w
FailedIf false id code v w = w ≡ v

abbrev pub ThrownIf : Bool → Bool → ℕ → InState → InState → Type 0
ThrownIf true ending total s t = ThrewAway ending total s t
ThrownIf false ending total s t = t ≡ s

module _ (q : ids.Plan) (link : ℕ) (calls : List ℕ) (ending short : Bool) (s t : InState) where
  -- the link was read to an end, its socket was set failed where that wasn't done, the calls that wait for it got the code, and what came behind a fault was thrown away
  pub record ReadToEnd (id : ℕ) (v w : View) (b b' : Books) : Type 0 where
    pub how : How
    pub between : InState
    pub total : ℕ
    pub met : Books
    pub read : ReadBy q.slots ending how s between total b met
    pub failed : FailedIf (fails how) id (code_of how) v w
    pub posted : PostedAll q link (code_of how) calls met b'
    pub thrown : ThrownIf (throws how) ending total between t
    -- where memory was wanting nowhere
    pub calm : short ≡ false → (b'.starved ≡ false) × (is_starved how ≡ false)

  -- the same without what was done to its socket
  pub record ReadLink (b b' : Books) : Type 0 where
    pub how : How
    pub between : InState
    pub total : ℕ
    pub met : Books
    pub read : ReadBy q.slots ending how s between total b met
    pub posted : PostedAll q link (code_of how) calls met b'
    pub thrown : ThrownIf (throws how) ending total between t
    pub calm : short ≡ false → (b'.starved ≡ false) × (is_starved how ≡ false)

  -- an `open` that got no socket has no link to be read
  abbrev pub ReadIf : Option SocketId → View → View → Books → Books → Type 0
  ReadIf None v w b b' = (w ≡ v) × (t ≡ s) × (b' ≡ b)
  ReadIf (Some id) v w b b' = ReadToEnd id.0 v w b b'

  pub record RanBy (p : Plan) (operation : ℕ) (v w : View) (b b' : Books) : Type 0 where
    pub id : Option SocketId
    pub noted : View
    pub opened : OpenedBy p operation id v noted
    pub read : ReadIf id noted w b b'
