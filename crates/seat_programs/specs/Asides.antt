-- Steps that the table of the sockets doesn't see: on the table of the call ids, and on the reading halves of links.
use Rattle.std.specs.Prelude.{ℕ, Bool, List}
use Rattle.sock_model.specs.sock_words.specs.declared.kind.Kind.{Kind}
use Rattle.sock_model.specs.sock_words.specs.declared.kind.Kind.TheVariants.{I1, I2, I3, I4, I5, I6, I7, I8, T1, T2, K1, K2, R1}
use Rattle.sock_message.specs.Asked.{Asked}

pub data Step : Type 0 where
  -- swap of the id slot's tag with 1
  ClaimId : ℕ → Step
  -- a call into its home: id slot
  PutCall : ℕ → Asked → Step
  -- the id word becomes that of an open id with so many versions
  MakeId : ℕ → ℕ → Step
  -- the word of a `call`: its operation, the id
  StoreCall : ℕ → ℕ → Step
  LoadCall : ℕ → Step
  -- the at word of a call: its operation, the word
  StoreAt : ℕ → ℕ → Step
  LoadAt : ℕ → Step
  -- the id word is loaded
  LoadIdWord : ℕ → Step
  -- exchanges from this word: the id is locked; an error is posted; the lock is given back, with an advance or without
  LockId : ℕ → ℕ → Step
  PostId : ℕ → ℕ → ℕ → Step
  UnlockId : ℕ → ℕ → Bool → Step
  -- the id word becomes the next first version, free, and the tag 0
  EndId : ℕ → Step
  FreeId : ℕ → Step
  -- a call out of its home
  TakeCall : ℕ → Step
  -- a take of the reading half of a link, of so many bytes at most
  TakeBytes : ℕ → ℕ → Step

-- what a take finds. Where the run is ending, what isn't there any more ends the reading.
pub data Taking : Type 0 where
  Bytes : List ℕ → Taking
  Nothing : Taking
  NoMore : Taking
  AtEnd : Taking
  Closed : Taking
  Broken : Taking

-- what a step finds
abbrev pub Found : Step → Type 0
Found (TakeCall i) = Asked
Found (TakeBytes k room) = Taking
Found other = ℕ

-- its kind
abbrev pub kind_aside : Step → Kind
kind_aside (ClaimId i) = I1
kind_aside (MakeId i range) = I2
kind_aside (StoreCall o id) = T1
kind_aside (LoadCall o) = T2
kind_aside (StoreAt o w) = T1
kind_aside (LoadAt o) = T2
kind_aside (LoadIdWord i) = I7
kind_aside (LockId i from) = I3
kind_aside (PostId i from e) = I4
kind_aside (UnlockId i from advance) = I5
kind_aside (EndId i) = I6
kind_aside (FreeId i) = I8
kind_aside (PutCall i asked) = K1
kind_aside (TakeCall i) = K2
kind_aside (TakeBytes k room) = R1

-- ## Ids
