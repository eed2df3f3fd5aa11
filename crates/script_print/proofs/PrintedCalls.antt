-- A call: what was read is printed so that it is read again as the same.
use Rattle.std.proofs.Common.{◌≡◌, ℕ, ◌+◌, Bool, true, false, if◌then◌else◌, ◌||◌, not, nat_le, nat_eq, ◌==◌, List, [], ◌∷◌, ◌++◌, length, drop, map, filter, flat_map, decimal, bytes_eq, codes, IfOk, Ok, Err, refl, ap, sym, ◌∙◌, append-nil, append_assoc, arith}
use Rattle.std.specs.List.{list_all, list_any, starts_with, slice_split, before_last, after_last, join_with_byte}
use Rattle.std.proofs.lemmas.Bool.{and_from, cond-true}
use Rattle.hex.specs.Hex.{IsBytes}
use Rattle.sock_words.specs.PrintedWords.{word, hex_text}
use Rattle.brpc_model.specs.Text.{has_bytes, number_in, is_name_byte, method_in, service_in, hex_in}
use Rattle.brpc_model.specs.LinePartReads.{Reads, ◌<*>◌, values_of, option_in, are_known}
use Rattle.brpc_model.specs.Items.{CallLine}
use Rattle.brpc_model.specs.ScriptLineFaults.{names_in, bodies_in, call_in}
use Rattle.brpc_model.specs.ScriptText.{option_text, att_text, call_text}
use Rattle.script_print.proofs.Spaced.{is_word}
use Rattle.script_print.proofs.Gives.{with_part, of_parts, of_part_test, of_test}
use Rattle.script_print.proofs.TokensReadAgain.{IsSpelled, spelled, name_word_byte, service_word_byte, hex_word, hex_back, hex_bytes, none_bytes}
use Rattle.script_print.proofs.PartLemmas.{unless, passed_over, picked, all_unless, option_back, behind_key, of_option, IsOption, number_option, number_option_back, number_option_word, IsNames, names_of, names_back, names_word, joined_word, before_dot, after_dot, word_parts}
use Rattle.script_print.proofs.Shapes.{option_words}

-- two bodies that a call may have
pub record AreBodies (payload attachment : List ℕ) : Type 0 where
  pub bytes : IsBytes payload
  pub more : IsBytes attachment
  pub long : nat_le (length payload + length attachment) 65280 ≡ true

pub record IsCallLine (c : CallLine) : Type 0 where
  pub names_are : IsNames c.names
  pub service_is : IsSpelled (λ b. is_name_byte b || b == 46) 64 c.service
  pub method_is : IsSpelled is_name_byte 64 c.method
  pub bodies_are : AreBodies c.payload c.attachment
  pub retry_in : IsOption 0 0 6 c.retry

bodies : (payload attachment : Reads (List ℕ)) → IfOk payload IsBytes → IfOk attachment IsBytes → IfOk (bodies_in (Ok (λ p a. (p, a)) <*> payload <*> attachment)) (λ b. AreBodies b.0 b.1)
bodies (Ok p) (Ok a) hp ha = of_test (nat_le (length p + length a) 65280) (p, a) 6 (λ b. AreBodies b.0 b.1) (λ e. record { bytes = hp; more = ha; long = e })
bodies (Ok p) (Err k) hp ha = tt
bodies (Err k) (Ok a) hp ha = tt
bodies (Err k) (Err j) hp ha = tt

-- a call of these parts
abbrev made : List (List ℕ) → List ℕ → List ℕ → List ℕ × List ℕ → ℕ → CallLine
made ns s m bytes retry = record { names = ns; service = s; method = m; payload = bytes.0; attachment = bytes.1; retry = retry }

parts_are : (names : Reads (List (List ℕ))) (service method : Reads (List ℕ)) (bytes : Reads (List ℕ × List ℕ)) (retry : Reads ℕ)
    → IfOk names IsNames → IfOk service (IsSpelled (λ b. is_name_byte b || b == 46) 64) → IfOk method (IsSpelled is_name_byte 64) → IfOk bytes (λ b. AreBodies b.0 b.1) → IfOk retry (IsOption 0 0 6)
    → IfOk (Ok (λ ns s m bytes retry. made ns s m bytes retry) <*> names <*> service <*> method <*> bytes <*> retry) IsCallLine
parts_are names service method bytes retry hn hs hm hb hr =
    with_part (Ok (λ ns s m bytes retry. made ns s m bytes retry) <*> names <*> service <*> method <*> bytes) retry
    (λ g. (r : ℕ) → IsOption 0 0 6 r → IsCallLine (g r)) (IsOption 0 0 6) IsCallLine
    (with_part (Ok (λ ns s m bytes retry. made ns s m bytes retry) <*> names <*> service <*> method) bytes
    (λ g. (b : List ℕ × List ℕ) (r : ℕ) → AreBodies b.0 b.1 → IsOption 0 0 6 r → IsCallLine (g b r)) (λ b. AreBodies b.0 b.1) (λ g. (r : ℕ) → IsOption 0 0 6 r → IsCallLine (g r))
    (with_part (Ok (λ ns s m bytes retry. made ns s m bytes retry) <*> names <*> service) method
    (λ g. (m : List ℕ) (b : List ℕ × List ℕ) (r : ℕ) → IsSpelled is_name_byte 64 m → AreBodies b.0 b.1 → IsOption 0 0 6 r → IsCallLine (g m b r)) (IsSpelled is_name_byte 64)
    (λ g. (b : List ℕ × List ℕ) (r : ℕ) → AreBodies b.0 b.1 → IsOption 0 0 6 r → IsCallLine (g b r))
    (of_parts (λ ns s m bytes retry. made ns s m bytes retry) names service IsNames (IsSpelled (λ b. is_name_byte b || b == 46) 64)
    (λ g. (m : List ℕ) (b : List ℕ × List ℕ) (r : ℕ) → IsSpelled is_name_byte 64 m → AreBodies b.0 b.1 → IsOption 0 0 6 r → IsCallLine (g m b r)) hn hs
    (λ ns s hn hs m b r hm hb hr. record { names_are = hn; service_is = hs; method_is = hm; bodies_are = hb; retry_in = hr }))
    hm (λ g m h hm b r hb hr. h m b r hm hb hr))
    hb (λ g b h hb r hr. h b r hb hr))
    hr (λ g r h hr. h r hr)

pub called : (names method payload : List ℕ) (options : List (List ℕ)) → IfOk (call_in names method payload options) IsCallLine
called names method payload options =
    let bytes = bodies_in (Ok (λ p a. (p, a)) <*> hex_in payload <*> option_in hex_in [] (values_of (codes "att=") options)) in
    let retry = option_in (number_in 0 6) 0 (values_of (codes "retry=") options) in
    of_part_test (are_known (codes "att=" ∷ codes "retry=" ∷ []) [] options)
    (Ok (λ ns s m bytes retry. made ns s m bytes retry) <*> names_in (slice_split (λ b. b == 44) names) <*> service_in (before_last (λ b. b == 46) method) <*> method_in (after_last (λ b. b == 46) method) <*> bytes <*> retry) 3 IsCallLine
    (λ known. parts_are (names_in (slice_split (λ b. b == 44) names)) (service_in (before_last (λ b. b == 46) method)) (method_in (after_last (λ b. b == 46) method)) bytes retry
    (names_of (slice_split (λ b. b == 44) names))
    (spelled (λ b. is_name_byte b || b == 46) 64 service_word_byte (before_last (λ b. b == 46) method))
    (spelled is_name_byte 64 name_word_byte (after_last (λ b. b == 46) method))
    (bodies (hex_in payload) (option_in hex_in [] (values_of (codes "att=") options)) (hex_bytes payload) (of_option hex_in [] (values_of (codes "att=") options) IsBytes none_bytes hex_bytes))
    (number_option 0 0 6 (values_of (codes "retry=") options)))

-- ## The words of a call

abbrev retry_words : CallLine → List (List ℕ)
retry_words c = unless (c.retry == 0) (codes "retry=" ++ decimal c.retry) ++ []

abbrev pub call_options : CallLine → List (List ℕ)
call_options c = unless (not (has_bytes c.attachment)) (codes "att=" ++ hex_text c.attachment) ++ retry_words c

att_word : (c : CallLine) → filter (λ w. starts_with nat_eq w (codes "att=")) (call_options c) ≡ unless (not (has_bytes c.attachment)) (codes "att=" ++ hex_text c.attachment)
att_word c =
    let p : List ℕ → Bool = λ w. starts_with nat_eq w (codes "att=") in
    picked p (not (has_bytes c.attachment)) (codes "att=" ++ hex_text c.attachment) (retry_words c) refl (passed_over p (c.retry == 0) (codes "retry=" ++ decimal c.retry) [] refl)

retry_word : (c : CallLine) → filter (λ w. starts_with nat_eq w (codes "retry=")) (call_options c) ≡ unless (c.retry == 0) (codes "retry=" ++ decimal c.retry)
retry_word c =
    let p : List ℕ → Bool = λ w. starts_with nat_eq w (codes "retry=") in
    passed_over p (not (has_bytes c.attachment)) (codes "att=" ++ hex_text c.attachment) (retry_words c) refl
    ∙ picked p (c.retry == 0) (codes "retry=" ++ decimal c.retry) [] refl refl

none_or_some : (a : List ℕ) → not (has_bytes a) ≡ true → [] ≡ a
none_or_some [] e = refl
none_or_some (b ∷ a) e = absurd (false_true e)
  where
    false_true : false ≡ true → ⊥
    false_true d = cc

pub call_back : (c : CallLine) → IsCallLine c → call_in (join_with_byte 44 c.names) (c.service ++ 46 ∷ c.method) (hex_text c.payload) (call_options c) ≡ Ok c
call_back c h =
    let ws = call_options c in
    let make : List (List ℕ) → List ℕ → List ℕ → List ℕ × List ℕ → ℕ → CallLine = λ ns s m bytes retry. made ns s m bytes retry in
    let spot = c.service ++ 46 ∷ c.method in
    let names = names_in (slice_split (λ b. b == 44) (join_with_byte 44 c.names)) in
    let service = service_in (before_last (λ b. b == 46) spot) in
    let method = method_in (after_last (λ b. b == 46) spot) in
    let att = option_in hex_in [] (values_of (codes "att=") ws) in
    let bytes = bodies_in (Ok (λ p a. (p, a)) <*> hex_in (hex_text c.payload) <*> att) in
    let retry = option_in (number_in 0 6) 0 (values_of (codes "retry=") ws) in
    let known : are_known (codes "att=" ∷ codes "retry=" ∷ []) [] ws ≡ true =
    all_unless (λ w. list_any (bytes_eq w) [] || list_any (starts_with nat_eq w) (codes "att=" ∷ codes "retry=" ∷ [])) (not (has_bytes c.attachment)) (codes "att=" ++ hex_text c.attachment) (retry_words c) (λ e. refl)
    (all_unless (λ w. list_any (bytes_eq w) [] || list_any (starts_with nat_eq w) (codes "att=" ∷ codes "retry=" ∷ [])) (c.retry == 0) (codes "retry=" ++ decimal c.retry) [] (λ e. refl) refl) in
    let named : names ≡ Ok c.names = names_back c.names h.names_are in
    let served : service ≡ Ok c.service = ap service_in (before_dot c.service c.method h.method_is.bytes) ∙ h.service_is.reads in
    let asked : method ≡ Ok c.method = ap method_in (after_dot c.service c.method h.method_is.bytes) ∙ h.method_is.reads in
    let attached : att ≡ Ok c.attachment =
    ap (λ vs. option_in hex_in [] (map (drop 4) vs)) (att_word c)
    ∙ ap (option_in hex_in []) (behind_key 4 (not (has_bytes c.attachment)) (codes "att=" ++ hex_text c.attachment) (hex_text c.attachment) refl)
    ∙ option_back hex_in [] c.attachment (not (has_bytes c.attachment)) (hex_text c.attachment) (none_or_some c.attachment) (λ e. hex_back c.attachment h.bodies_are.more) in
    let told : bytes ≡ Ok (c.payload, c.attachment) =
    ap (λ r. bodies_in (Ok (λ p a. (p, a)) <*> r <*> att)) (hex_back c.payload h.bodies_are.bytes)
    ∙ ap (λ r. bodies_in (Ok (λ p a. (p, a)) <*> Ok c.payload <*> r)) attached
    ∙ cond-true (nat_le (length c.payload + length c.attachment) 65280) (Ok (c.payload, c.attachment)) (Err 6) h.bodies_are.long in
    let tried : retry ≡ Ok c.retry =
    ap (λ vs. option_in (number_in 0 6) 0 (map (drop 6) vs)) (retry_word c)
    ∙ ap (option_in (number_in 0 6) 0) (behind_key 6 (c.retry == 0) (codes "retry=" ++ decimal c.retry) (decimal c.retry) refl)
    ∙ number_option_back 0 0 6 c.retry (omega arith) h.retry_in in
    cond-true (are_known (codes "att=" ∷ codes "retry=" ∷ []) [] ws) (Ok make <*> names <*> service <*> method <*> bytes <*> retry) (Err 3) known
    ∙ ap (λ r. Ok make <*> r <*> service <*> method <*> bytes <*> retry) named
    ∙ ap (λ r. Ok make <*> Ok c.names <*> r <*> method <*> bytes <*> retry) served
    ∙ ap (λ r. Ok make <*> Ok c.names <*> Ok c.service <*> r <*> bytes <*> retry) asked
    ∙ ap (λ r. Ok make <*> Ok c.names <*> Ok c.service <*> Ok c.method <*> r <*> retry) told
    ∙ ap (λ r. Ok make <*> Ok c.names <*> Ok c.service <*> Ok c.method <*> Ok (c.payload, c.attachment) <*> r) tried

pub call_words_are : (c : CallLine) → IsCallLine c → list_all is_word (join_with_byte 44 c.names ∷ (c.service ++ 46 ∷ c.method) ∷ hex_text c.payload ∷ call_options c) ≡ true
call_words_are c h =
    let options : list_all is_word (call_options c) ≡ true =
    all_unless is_word (not (has_bytes c.attachment)) (codes "att=" ++ hex_text c.attachment) (retry_words c) (λ e. word_parts (hex_text c.attachment) (hex_word c.attachment h.bodies_are.more))
    (all_unless is_word (c.retry == 0) (codes "retry=" ++ decimal c.retry) [] (λ e. word_parts (decimal c.retry) (number_option_word 0 0 6 c.retry (omega arith) h.retry_in e)) refl) in
    let body = and_from (is_word (hex_text c.payload)) (list_all is_word (call_options c)) (hex_word c.payload h.bodies_are.bytes) options in
    let spot = and_from (is_word (c.service ++ 46 ∷ c.method)) (list_all is_word (hex_text c.payload ∷ call_options c)) (joined_word c.service c.method 46 h.service_is.one h.method_is.one refl) body in
    and_from (is_word (join_with_byte 44 c.names)) (list_all is_word ((c.service ++ 46 ∷ c.method) ∷ hex_text c.payload ∷ call_options c)) (names_word c.names h.names_are) spot

att_of : (a : List ℕ) → (if not (has_bytes a) then [] else 32 ∷ (codes "att=" ++ hex_text a)) ≡ att_text a
att_of [] = refl
att_of (b ∷ a) = refl

regroup : (n s p a r : List ℕ) → codes "call" ++ (n ++ (s ++ (p ++ (a ++ (r ++ []))))) ≡ codes "call" ++ n ++ s ++ p ++ a ++ r
regroup n s p a r = simp (append_assoc, append-nil)

pub call_text_words : (c : CallLine) → call_text c ≡ codes "call" ++ flat_map word (join_with_byte 44 c.names ∷ (c.service ++ 46 ∷ c.method) ∷ hex_text c.payload ∷ call_options c)
call_text_words c =
    let names = word (join_with_byte 44 c.names) in
    let spot = word (c.service ++ 46 ∷ c.method) in
    let payload = word (hex_text c.payload) in
    let retry = option_text (codes "retry") 0 c.retry in
    let options : flat_map word (call_options c) ≡ att_text c.attachment ++ (retry ++ []) =
    option_words (not (has_bytes c.attachment)) (codes "att=" ++ hex_text c.attachment) (retry_words c)
    ∙ ap (λ t. t ++ flat_map word (retry_words c)) (att_of c.attachment)
    ∙ ap (λ t. att_text c.attachment ++ t) (option_words (c.retry == 0) (codes "retry=" ++ decimal c.retry) []) in
    sym (ap (λ t. codes "call" ++ (names ++ (spot ++ (payload ++ t)))) options ∙ regroup names spot payload (att_text c.attachment) retry)
