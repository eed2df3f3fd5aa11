-- What a seat does that writes a link until its head is empty, and tells the calls whose messages it drops.
use Rattle.std.specs.Prelude.{◌≡◌, ◌≢◌, ℕ, Some}
use Rattle.sock_io.specs.LinkHalves.{OutState}
use Rattle.sock_words.specs.declared.plain.Plan.{Plan}
use Rattle.sock_model.specs.declared.view.View.{View}
use Rattle.write_chain.specs.declared.right.Undelivered.{Undelivered}
use Rattle.write_chain.specs.NotingWhileWriting.{Wrote, WroteDrop}
use Rattle.write_chain.specs.WritingRightInHand.{FoundDead}
use Rattle.write_chain.specs.KeepingOnWriting.{IsCode}
use Rattle.call_errors.specs.ClientBooks.{CallStand}
use Rattle.call_errors.specs.PostedErrors.{PostedBy}

-- nobody is told of a send; to the id of a call the code is posted, for the attempt whose frame it was
pub data ToldDrop (slots : ℕ) (msg : Undelivered) (code : ℕ) (s t : CallStand) : Type 0 where
  of_send : msg.owner ≡ 0 → t ≡ s → ToldDrop slots msg code s t
  of_call : msg.owner ≢ 0 → PostedBy slots s msg.owner code (Some msg.label.attempt) t → ToldDrop slots msg code s t

-- of the life of this id, whose link the seat writes
module _ {O : Type 0} (state : O → OutState) (p : Plan) (slots id : ℕ) where
  -- the seat wrote, found the life failed, and dropped a message with the code of the life; then its call was told
  pub record DroppedOne (v : View) (s : CallStand) (w : View) (t : CallStand) : Type 0 where
    pub msg : Undelivered
    pub code : ℕ
    pub wrote : WroteDrop state p id msg v w
    pub dead : FoundDead id w
    pub code_is : IsCode code id v w
    pub told : ToldDrop slots msg code s t

  -- one after the other
  pub data DroppedAll (v : View) (s : CallStand) : View → CallStand → Type 0 where
    none : DroppedAll v s v s
    one_more : (u : View) (r : CallStand) (w : View) (t : CallStand) → DroppedAll v s u r → DroppedOne u r w t → DroppedAll v s w t

  -- and then it wrote until the head was empty
  pub record Drained (v : View) (s : CallStand) (w : View) (t : CallStand) : Type 0 where
    pub last : View
    pub dropped : DroppedAll v s last t
    pub wrote : Wrote state id last w
