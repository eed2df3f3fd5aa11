-- The pieces of a line, and the words of a meta's fault.
use Rattle.std.proofs.Common.{◌≡◌, ℕ, ◌+◌, ◌<◌, List, [], ◌∷◌, ◌++◌, length, take, drop, get_or, refl, ap, sym, ◌∙◌, append_assoc, append-nil, codes, decimal, Some, None, Option, option_map, lit<}
use Rattle.std.proofs.lemmas.List.{take_more, take-append-drop}
use Rattle.std.proofs.lemmas.Grind.{flat_map-append}
use Rattle.std.proofs.lemmas.Fmt.{decimal_digit}
use Rattle.sock_words.specs.PrintedWords.{word}
use Rattle.brpc_model.specs.Meta as metas
use Rattle.brpc_model.specs.Wire as wire
use Rattle.brpc_model.specs.Frame as model
use Rattle.brpc_model.specs.FramesText.{meta_words, fault_words}
use Rattle.prpc_frame.specs.FrameMeaning.{fault_of}
use Rattle.prpc_frame.specs.declared.fault.FrameFault.{FrameFault}
use Rattle.prpc_frame.specs.declared.fault.FrameFault.TheVariants as frame_
use Rattle.pb_wire.specs.declared.fault.WireFault.TheVariants.{Truncated, LongVarint, BadKey, Group}
use Rattle.rpc_meta.specs.declared.fault.MetaFault.{MetaFault}
use Rattle.rpc_meta.specs.declared.fault.MetaFault.TheVariants.{Wire, NoService, NoMethod, Neither, NoMemory}
use Rattle.rpc_meta.specs.Answer.{meta_fault}
use Rattle.frame_print.specs.FaultParts.{kind_of, place_of}
use Rattle.frame_print.specs.LinePieceTexts.{piece_text, pieces_text}
use Rattle.frame_print.specs.declared.piece.Piece.{Piece}

-- a piece behind those that are written, and the others behind it
pub pieces_rest : (ps : List Piece) (i : ℕ) (p : Piece) → i < length ps → p ≡ get_or ps i p → pieces_text (take i ps) ++ (piece_text p ++ pieces_text (drop (i + 1) ps)) ≡ pieces_text ps
pieces_rest ps i p below is =
    let one : take i ps ++ (p ∷ drop (i + 1) ps) ≡ ps =
    ap (λ q. take i ps ++ (q ∷ drop (i + 1) ps)) is
    ∙ sym (append_assoc (take i ps) (get_or ps i p ∷ []) (drop (i + 1) ps))
    ∙ ap (λ l. l ++ drop (i + 1) ps) (sym (take_more ps i p below))
    ∙ take-append-drop (i + 1) ps
    in
    sym (flat_map-append piece_text (take i ps) (p ∷ drop (i + 1) ps)) ∙ ap pieces_text one

meant : (kind place : ℕ) (text : List ℕ) (m f : metas.MetaFault) → decimal kind ≡ text → 32 ∷ (text ++ word (decimal place)) ≡ meta_words m → ◌≡◌ {A = Option metas.MetaFault} (Some m) (Some f) →
    word (decimal kind) ++ word (decimal place) ≡ meta_words f
meant kind place text m f digit words same =
    let is : m ≡ f = cc in
    ap (λ (d : List ℕ). 32 ∷ (d ++ word (decimal place))) digit ∙ words ∙ ap meta_words is

-- the words of a meta's fault
pub words_are : (fault : MetaFault) (f : metas.MetaFault) → meta_fault fault ≡ Some f → word (decimal (kind_of fault)) ++ word (decimal (place_of fault)) ≡ meta_words f
words_are (Wire (Truncated at)) f e = meant 1 at (49 ∷ []) (metas.Wrong (wire.Truncated at)) f (decimal_digit 1 (lit< tt)) refl e
words_are (Wire (LongVarint at)) f e = meant 2 at (50 ∷ []) (metas.Wrong (wire.LongVarint at)) f (decimal_digit 2 (lit< tt)) refl e
words_are (Wire (BadKey at)) f e = meant 3 at (51 ∷ []) (metas.Wrong (wire.BadKey at)) f (decimal_digit 3 (lit< tt)) refl e
words_are (Wire (Group at)) f e = meant 4 at (52 ∷ []) (metas.Wrong (wire.Group at)) f (decimal_digit 4 (lit< tt)) refl e
words_are NoService f e = meant 5 0 (53 ∷ []) metas.NoService f (decimal_digit 5 (lit< tt)) (ap (λ (d : List ℕ). 32 ∷ 53 ∷ 32 ∷ d) (decimal_digit 0 (lit< tt))) e
words_are NoMethod f e = meant 6 0 (54 ∷ []) metas.NoMethod f (decimal_digit 6 (lit< tt)) (ap (λ (d : List ℕ). 32 ∷ 54 ∷ 32 ∷ d) (decimal_digit 0 (lit< tt))) e
words_are Neither f e = meant 7 0 (55 ∷ []) metas.Neither f (decimal_digit 7 (lit< tt)) (ap (λ (d : List ℕ). 32 ∷ 55 ∷ 32 ∷ d) (decimal_digit 0 (lit< tt))) e
words_are NoMemory f e = absurd (cc)

meta_written : (fault : MetaFault) (k p : ℕ) (o : Option metas.MetaFault) (f : model.FrameFault) → k ≡ kind_of fault → p ≡ place_of fault → meta_fault fault ≡ o →
    option_map (λ m. model.BadMeta m) o ≡ Some f → codes " 4 " ++ (decimal k ++ (codes " " ++ (decimal p ++ []))) ≡ fault_words f
meta_written fault k p None f a b e same = absurd (cc)
meta_written fault k p (Some m) f a b e same =
    let is : model.BadMeta m ≡ f = cc in
    ap (λ (l : List ℕ). 32 ∷ 52 ∷ 32 ∷ (decimal k ++ (32 ∷ l))) (append-nil (decimal p))
    ∙ ap (λ (n : ℕ). 32 ∷ 52 ∷ (word (decimal n) ++ word (decimal p))) a
    ∙ ap (λ (n : ℕ). 32 ∷ 52 ∷ (word (decimal (kind_of fault)) ++ word (decimal n))) b
    ∙ ap (λ (l : List ℕ). 32 ∷ 52 ∷ l) (words_are fault m e)
    ∙ ap fault_words is

-- the words of a frame's fault in its meta
pub meta_fault_written : (x : FrameFault) (fault : MetaFault) (k p : ℕ) (f : model.FrameFault) → x ≡ frame_.Meta fault → k ≡ kind_of fault → p ≡ place_of fault → fault_of x ≡ Some f →
    codes " 4 " ++ (decimal k ++ (codes " " ++ (decimal p ++ []))) ≡ fault_words f
meta_fault_written x fault k p f is a b e = meta_written fault k p (meta_fault fault) f a b refl (sym (ap fault_of is) ∙ e)

-- ## A line of four parts

pub split_first : (a b c d line : List ℕ) → a ++ b ++ c ++ d ≡ line → a ++ (b ++ (c ++ d)) ≡ line
split_first a b c d line e = sym (append_assoc a b (c ++ d)) ∙ sym (append_assoc (a ++ b) c d) ∙ e

pub split_third : (a b c d line : List ℕ) → a ++ b ++ c ++ d ≡ line → (a ++ b) ++ (c ++ d) ≡ line
split_third a b c d line e = sym (append_assoc (a ++ b) c d) ∙ e

regroup : (h r s a b d e f g i j k : List ℕ) → h ++ r ++ s ++ ((a ++ b ++ d ++ e) ++ (f ++ g ++ i ++ j ++ k)) ≡ h ++ r ++ s ++ a ++ b ++ d ++ e ++ f ++ g ++ i ++ j ++ k
regroup h r s a b d e f g i j k = simp append_assoc

-- a frame's line
pub line_parts : (request response id compress payload attachment : List ℕ) →
    codes "frame" ++ request ++ response ++ ((codes " id" ++ word id ++ codes " compress" ++ word compress) ++ (codes " payload" ++ word payload ++ codes " attachment" ++ word attachment ++ 10 ∷ []))
    ≡ codes "frame" ++ request ++ response ++ codes " id" ++ word id ++ codes " compress" ++ word compress ++ codes " payload" ++ word payload ++ codes " attachment" ++ word attachment ++ 10 ∷ []
line_parts request response id compress payload attachment =
    regroup (codes "frame") request response (codes " id") (word id) (codes " compress") (word compress) (codes " payload") (word payload) (codes " attachment") (word attachment) (10 ∷ [])

-- its numbers
pub numbers_parts : (id compress : List ℕ) → codes " id " ++ (id ++ (codes " compress " ++ (compress ++ []))) ≡ codes " id" ++ word id ++ codes " compress" ++ word compress
numbers_parts id compress = simp (append_assoc, append-nil)

-- its bytes
pub bytes_parts : (payload attachment : List ℕ) →
    codes " payload " ++ (payload ++ (codes " attachment " ++ (attachment ++ (10 ∷ [])))) ≡ codes " payload" ++ word payload ++ codes " attachment" ++ word attachment ++ 10 ∷ []
bytes_parts payload attachment = simp append_assoc

-- a fault's line
pub fault_parts : (start words : List ℕ) → (codes "fault " ++ (start ++ [])) ++ words ++ (10 ∷ []) ≡ codes "fault" ++ word start ++ words ++ 10 ∷ []
fault_parts start words = ap (λ (l : List ℕ). codes "fault " ++ l ++ words ++ (10 ∷ [])) (append-nil start)
