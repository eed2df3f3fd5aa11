-- The links that failed, as a seat noted it while it wrote.
use Rattle.std.specs.Prelude.{ℕ, List, [], ◌∷◌, None}
use Rattle.sock_io.specs.declared.link.Out.{Ghosts}
use Rattle.sock_io.specs.LinkHalves.{OutState}
use Rattle.sock_words.specs.declared.plain.Plan.{Plan}
use Rattle.sock_words.specs.PackedWords.{socket_id_version}
use Rattle.sock_model.specs.declared.marks.Mark.{Mark}
use Rattle.rpc_client.specs.write_chain.specs.NotingWhileWriting.{Noted, nothing, finding, failing}
use Rattle.sock_deeds.specs.Deeds.{Hand, Did, sends, DoneBy, Deed}

-- those of which a fault came
abbrev pub noted_links : {O : Type 0} {state : O → OutState} {L : ℕ → Type 0} (h : ℕ) (ms : List Mark) → Noted state L h ms → List ℕ
noted_links h _ nothing = []
noted_links h _ (finding m ms a b) = noted_links h ms b
noted_links h _ (failing k ms a b c) = k ∷ noted_links h ms c

module _ {O : Type 0} (g : Ghosts O) (state : O → OutState) (p : Plan) where
  -- while a message was seen through
  abbrev pub faults_by : (d : Did) (s t : Hand) → DoneBy g state p d s t → List ℕ
  faults_by (sends name number attempt msg None) s t b = noted_links (socket_id_version b.0.sock.id.0) b.0.delivered.through.by.notes b.0.delivered.through.by.noted
  faults_by _ s t b = []

abbrev pub faults_of : {O : Type 0} {g : Ghosts O} {state : O → OutState} {p : Plan} → Deed g state p → List ℕ
faults_of {g = g} {state = state} {p = p} d = faults_by g state p d.did d.before d.after d.done
