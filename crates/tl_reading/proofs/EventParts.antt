-- An event is its actor, its word, and what stands behind the word.
use Rattle.std.proofs.Common.{◌≡◌, ◌≢◌, ℕ, ◌≤◌, true, List, ◌∷◌, ◌++◌, decimal, refl, sym, ◌∙◌, arith}
use Rattle.std.specs.List.{All}
use Rattle.tl_types.specs.declared.actor.Actor.{Actor}
use Rattle.tl_model.specs.declared.command.Command.{Command}
use Rattle.tl_model.specs.declared.event.Act.{Act}
use Rattle.tl_model.specs.declared.event.Act.TheVariants.{Call, Served, Shut, Claim, Done, Back, Lose, Free, Drop, Load, Save, Saved, Unsave, Collect}
use Rattle.tl_model.specs.declared.event.Event.{Event}
use Rattle.tl_model.specs.declared.header.Header.{Header}
use Rattle.tl_model.specs.declared.reply.Reply.{Reply}
use Rattle.tl_report.specs.Words.{reply_words, spaced}
use Rattle.tl_script.specs.Commands.{IsOp}
use Rattle.tl_script.specs.Lines.{IsOther}
use Rattle.tl_script.proofs.Splits.{one_cut}
use Rattle.tl_script.proofs.WordTables.{no_space}
use Rattle.tl_spelling.specs.Commands.{command_text, op_of}
use Rattle.tl_spelling.specs.Events.{act_words, event_text}
use Rattle.tl_spelling.specs.Shown.{IsAct, IsReply}
use Rattle.tl_spelling.proofs.Cuts.{cut_number, no_digit_at_space, tail_of}
use Rattle.tl_spelling.proofs.OneReply.{one_reply}
use Rattle.tl_reading.specs.declared.deed.Deed.{Deed}
use Rattle.tl_reading.specs.declared.deed.Deed.TheVariants as deed
use Rattle.tl_reading.specs.Acts.{about, deed_of, deed_text}
use Rattle.tl_reading.proofs.Names.{without_space}
use Rattle.tl_reading.proofs.Tables.{same_deed}

-- ---- calls

pub no_call : (header : Header) (text : List ℕ) (reply : Reply) (rest : List ℕ) → IsReply reply → text ≡ reply_words reply ++ 0x20 ∷ rest → ((command : Command (List ℕ)) → IsOp header (op_of command) → rest ≢ command_text command)
    → (act : Act (List ℕ)) → deed_of act ≡ deed.Call → IsAct header act → text ≡ about act → ⊥
no_call header text reply rest h e none (Call command other) same k f =
    none command k.1 (one_reply reply other rest (command_text command) h k.0 (sym e ∙ f)).1
no_call header text reply rest h e none act same k f = absurd (cc)

-- ---- the actor

pub cut_actor : (a b : Actor) (x y : List ℕ) → a.0 ≤ 15 → b.0 ≤ 15 → decimal a.0 ++ 0x20 ∷ x ≡ decimal b.0 ++ 0x20 ∷ y → (a ≡ b) × (x ≡ y)
cut_actor a b x y h k e =
    let cut = cut_number a.0 b.0 (0x20 ∷ x) (0x20 ∷ y) (omega (arith, h)) (omega (arith, k)) (no_digit_at_space x) (no_digit_at_space y) e in
    (λ j. record { 0 = cut.0 j }, tail_of 0x20 0x20 x y cut.1)

-- ---- the word

deed_no_space : (d : Deed) → no_space (deed_text d) ≡ true
deed_no_space deed.Call = refl
deed_no_space deed.Served = refl
deed_no_space deed.Shut = refl
deed_no_space deed.Claim = refl
deed_no_space deed.Done = refl
deed_no_space deed.Back = refl
deed_no_space deed.Lose = refl
deed_no_space deed.Free = refl
deed_no_space deed.Drop = refl
deed_no_space deed.Load = refl
deed_no_space deed.Save = refl
deed_no_space deed.Saved = refl
deed_no_space deed.Unsave = refl
deed_no_space deed.Collect = refl

pub deed_cut : (word rest : List ℕ) (d : Deed) (more : List ℕ) → All (IsOther 32) word → word ++ 0x20 ∷ rest ≡ deed_text d ++ 0x20 ∷ more → word ≡ deed_text d
deed_cut word rest d more h e = (one_cut 32 word rest (deed_text d) more h (without_space (deed_text d) (deed_no_space d)) e).0

pub cut_deed : (d e : Deed) (x y : List ℕ) → deed_text d ++ 0x20 ∷ x ≡ deed_text e ++ 0x20 ∷ y → (d ≡ e) × (x ≡ y)
cut_deed d e x y same =
    let cut = one_cut 32 (deed_text d) x (deed_text e) y (without_space (deed_text d) (deed_no_space d)) (without_space (deed_text e) (deed_no_space e)) same in
    (same_deed d e cut.0, cut.1)

-- ---- the whole

act_parts : (word : List ℕ) (act : Act (List ℕ)) → spaced (word ∷ act_words act) ≡ word ++ 0x20 ∷ (deed_text (deed_of act) ++ 0x20 ∷ about act)
act_parts word (Call c r) = refl
act_parts word (Served f d) = refl
act_parts word (Shut f) = refl
act_parts word (Claim w r) = refl
act_parts word (Done w r) = refl
act_parts word (Back r) = refl
act_parts word (Lose w) = refl
act_parts word (Free f) = refl
act_parts word (Drop w f) = refl
act_parts word (Load w f) = refl
act_parts word (Save f) = refl
act_parts word (Saved f n d) = refl
act_parts word (Unsave f) = refl
act_parts word (Collect r) = refl

pub event_parts : (event : Event (List ℕ)) → event_text event ≡ decimal event.actor.0 ++ 0x20 ∷ (deed_text (deed_of event.act) ++ 0x20 ∷ about event.act)
event_parts event = act_parts (decimal event.actor.0) event.act
