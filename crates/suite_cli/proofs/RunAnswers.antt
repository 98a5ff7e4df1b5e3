-- What a run tells is what its outcome asks.
use Rattle.std.proofs.Common.{◌≡◌, ◌⊎◌, inl, inr, ℕ, ◌<◌, ◌≤◌, ◌+◌, ◌^◌, List, [], ◌∷◌, ◌++◌, Option, Some, None, IfSome, IsSomeAnd, Result, Ok, Err, IfErr, OnOk, OnErr, length, refl, ap, sym, ◌∙◌, subst, arith}
use Rattle.std.proofs.lemmas.List.{append-nil}
use Rattle.suite_base.specs.Outside.{IsMissing, Under, Wrote, WrotePart}
use Rattle.suite_base.specs.Limits.{max_commands, max_input}
use Rattle.suite_base.specs.declared.refusals.Fail.{Fail}
use Rattle.suite_base.specs.declared.refusals.Fail.TheVariants as failure
use Rattle.suite_base.specs.declared.refusals.Refusal.{Refusal}
use Rattle.suite_base.specs.declared.refusals.Refusal.TheVariants.{TooLong}
use Rattle.scop_core.specs.ScopData.{ScopData}
use Rattle.scop_core.specs.Layouts.{layout}
use Rattle.scop_core.specs.Validity.{IsValid}
use Rattle.scop_reader.specs.Texts.{IsScopText, fault}
use Rattle.scop_reader.proofs.FaultPieces.{fault_is_not_too_long_law}
use Rattle.scop_reader.proofs.GrammarProper.{stands_for_one_law}
use Rattle.scop_reader.proofs.GrammarReadBack.{layout_reads_back_law}
use Rattle.dependence_systems.specs.Sides.{own_sides}
use Rattle.dependence_systems.specs.Entries.{entries}
use Rattle.dependence_audit.specs.declared.audits.Counts.{Counts}
use Rattle.dependence_audit.specs.Audits.{audited}
use Rattle.dependence_audit.proofs.Sound.{blocks_are_sound}
use Rattle.clay_script.specs.declared.commands.Command.{Command as ScriptCommand}
use Rattle.clay_commands.specs.Afters.{after_script, refusal_of}
use Rattle.clay_commands.specs.declared.edited.Edited.{Edited}
use Rattle.scop_core.proofs.KeptLimits.{keeps_limits}
use Rattle.legality.specs.Violations.{edit_of}
use Rattle.legality.specs.Answers.{IsAccepted}
use Rattle.legality.specs.Memories.{KeepsMemory}
use Rattle.edit_laws.proofs.Unrefused.{unrefused_scripts_are_formed}
use Rattle.edit_laws.proofs.Brought.{scripts_bring_instances}
use Rattle.candl_deps.specs.Decisions.{IsDecidable, IsRefusal, WithDependences}
use Rattle.candl_deps.proofs.Kept.{right_is_sound}
use Rattle.dependence_blocks.proofs.Kept.{kept_hold_conflicts}
use Rattle.candl_deps.proofs.Printing.{decidable_is_not_refused}
use Rattle.clan_extract.specs.Names.{arrays_in, parameters_in}
use Rattle.clan_extract.specs.Scops.{scop_of}
use Rattle.region_trees.specs.Regions.{nodes_of}
use Rattle.region_trees.specs.Statements.{statements_of}
use Rattle.region_trees.specs.Translation.{of_names, of_region, unless_refused}
use Rattle.region_trees.proofs.Answered.{answers_are_translated}
use Rattle.region_extract.specs.Answers.{IsTranslation}
use Rattle.region_extract.proofs.Exclusions.{refuses_no_length, translated_is_not_refused}
use Rattle.demo.specs.Demonstrations as demo
use Rattle.demo.specs.Edits.{IsScriptRefused}
use Rattle.demo.specs.Inputs.{demo_script, demo_text}
use Rattle.demo.proofs.ClearEdits.{clear_is_not_refused}
use Rattle.demo.proofs.Stages.{taken_is_not_refused}
use Rattle.suite_cli.specs.declared.commands.Work.{Work}
use Rattle.suite_cli.specs.declared.commands.Work.TheVariants as work
use Rattle.suite_cli.specs.declared.outcomes.Outcome.{Outcome}
use Rattle.suite_cli.specs.declared.outcomes.Outcome.TheVariants.{Done, Refused, Usage, ReadFault, WriteFault, Memory}
use Rattle.suite_cli.specs.Answers.{Answers, CommandAnswers, Completes, IsRefused, ReadingAnswers, RefusalCause, Reported}
use Rattle.suite_cli.specs.AuditPromise as audit
use Rattle.suite_cli.specs.CandlPromise as candl
use Rattle.suite_cli.specs.ChlorePromise as chlore
use Rattle.suite_cli.specs.ClanPromise as clan
use Rattle.suite_cli.specs.ClanPromise.{names_in}
use Rattle.suite_cli.specs.ClayPromise as clay
use Rattle.suite_cli.specs.ClayPromise.{IsScriptText}
use Rattle.suite_cli.specs.Commands.{Command, Audit, Candl, Chlore, Clan, Clay, Demo, Scop, Words, command_of, files_of}
use Rattle.suite_cli.specs.Messages.{message}
use Rattle.suite_cli.specs.Promises.{OfOne, OfTwo, Refuses, StopCause, Takes, made_of}
use Rattle.suite_cli.specs.Reads.{AreRead, AreReadable, FaultCause, HasReadFault, Holds, IsLong, IsReadFaulty, IsReadable, IsTooLong, Named, StopsAt, Tells}
use Rattle.suite_cli.specs.ScopPromise as scop
use Rattle.suite_cli.specs.Worlds.{Inputs, IsUnwritten, IsWriteFaulty, Output, World}
use Rattle.suite_cli.proofs.AuditLengths.{audit_says_no_length}
use Rattle.suite_cli.proofs.Recoverings.{chlore_not_too_long, no_chlore_refusal, says_no_length}
use Rattle.suite_cli.proofs.ClayScripts.{fault_is_no_length, one_script, script_has_no_fault, script_says_no_length}
use Rattle.suite_cli.proofs.ScopTexts.{text_has_no_fault}
use Rattle.suite_cli.proofs.WordLists.{one_command}

-- a valid SCoP's layout is a text of it
stands : (output : List ℕ) (S : ScopData) → IsValid S → output ≡ layout S → IsScopText output S
stands output S valid e = let P : List ℕ → Type 0 = λ bytes. IsScopText bytes S in subst P (sym e) (layout_reads_back_law S valid)

-- the layout of the SCoP of a text's region
pub translates : (text output : List ℕ) (S : ScopData) → IsTranslation text S → IsValid S → output ≡ layout S → clan.Makes text output
translates text output S t valid e = record {
  scop = S;
  translation = t;
  layout_is = e;
  stands = stands output S valid e;
  means = answers_are_translated text (statements_of text t.nodes) S t.translated;
}

-- the layout of a SCoP that was read prints it
pub prints : (text output : List ℕ) (S : ScopData) → IsScopText text S → IsValid S → output ≡ layout S → scop.Makes text output
prints text output S t valid e = record { scop = S; read = t; layout_is = e; stands = stands output S valid e }

-- the layout of a SCoP with its block
pub depends : (text output : List ℕ) (S made : ScopData) → IsScopText text S → IsValid S → IsValid made → WithDependences S made → output ≡ layout made → candl.Makes text output
depends text output S made t valid kept with_block e =
    let b = with_block.is_block in
    let context = S.context in
    let sound = right_is_sound context (own_sides S) (entries (own_sides S)) b.verdicts b.are.right in
    record {
      scop = S;
      read = t;
      made = made;
      dependences = with_block;
      layout_is = e;
      stands = stands output made kept e;
      conflicts = kept_hold_conflicts S valid b.verdicts sound;
    }

-- the line of a block that passes
pub audits : (text output : List ℕ) (S : ScopData) (counts : Counts) → IsScopText text S → IsValid S → audited S ≡ Ok counts → output ≡ audit.counts_line counts
    → audit.Makes text output
audits text output S counts t valid passes e = record {
  scop = S;
  read = t;
  counts = counts;
  passes = passes;
  says = blocks_are_sound S valid counts passes;
  line = e;
}

-- the layout of a SCoP after a script that keeps its memory
pub edits : (output : List ℕ) (S : ScopData) (script : List ScriptCommand) (made : Edited) → IsValid S → refusal_of S script ≡ None → made ≡ after_script S script
    → length script ≤ max_commands → IsValid made.scop → IsAccepted (edit_of S made) → KeepsMemory S made.scop → output ≡ layout made.scop
    → clay.IsEditedText S script output
edits output S script made valid unrefused same few made_valid accepted memory e =
    let formed = unrefused_scripts_are_formed S script unrefused in
    let statements : length S.statements ≤ 1024 = (keeps_limits S valid).statements in
    let room : length S.statements + length script < 2 ^ 32 = omega (arith, statements, few) in
    record {
      unrefused = unrefused;
      accepted = subst (λ (m : Edited). IsAccepted (edit_of S m)) same accepted;
      stamps = λ n sized. scripts_bring_instances S script valid formed room n sized;
      memory = subst (λ (m : Edited). KeepsMemory S m.scop) same memory;
      layout_is = e ∙ ap (λ (m : Edited). layout m.scop) same;
      stands = subst (λ (m : Edited). IsScopText output m.scop) same (stands output made.scop made_valid e);
    }

-- ---- what is told

told_by : (o : Option (List ℕ)) (P : List ℕ → Type 0) (bytes : List ℕ) → o ≡ Some bytes → IfSome o P → P bytes
told_by o P bytes e h = let Q : Option (List ℕ) → Type 0 = λ v. IfSome v P in subst Q e h

-- what is said of the bytes under a name holds for those that are told
held_by : (held : Option (List (List ℕ × List ℕ))) (P : List ℕ → Type 0) (name bytes : List ℕ) → Holds held name bytes → Under held name P → P bytes
held_by None P name bytes e h = absurd e
held_by (Some files) P name bytes e h = let Q : Option (List ℕ) → Type 0 = λ v. IsSomeAnd v P in subst Q e h

named_by : (inputs : Inputs) (file bytes : List ℕ) (P : List ℕ → Type 0) → Tells inputs file bytes → Named inputs file P → P bytes
named_by inputs file bytes P (inl (i, e)) (inl (j, h)) = told_by inputs.left P bytes e h
named_by inputs file bytes P (inr (i, e)) (inr (j, h)) = held_by inputs.held P file bytes e h
named_by inputs file bytes P (inl (i, e)) (inr (j, h)) = absurd (cc)
named_by inputs file bytes P (inr (i, e)) (inl (j, h)) = absurd (cc)

not_missing : (held : Option (List (List ℕ × List ℕ))) (name bytes : List ℕ) → Holds held name bytes → ¬ IsMissing held name
not_missing None name bytes e h = absurd e
not_missing (Some files) name bytes e h = absurd (cc)

-- the fault of a file that is told was counted
counted : (before now : Inputs) (file bytes : List ℕ) → Tells before file bytes → FaultCause before now file → IsReadFaulty before now file
counted before now file bytes t (inl c) = inl c
counted before now file bytes t (inr (i, inl c)) = inr (i, c)
counted before now file bytes (inl (j, e)) (inr (i, inr m)) = absurd (cc)
counted before now file bytes (inr (j, e)) (inr (i, inr m)) = absurd (not_missing before.held file bytes e m)

-- the texts that were read are those that are told
same_texts : (before now : Inputs) (files texts told : List (List ℕ)) → AreRead before now files texts → AreReadable before now files told → texts ≡ told
same_texts before now [] [] [] r t = refl
same_texts before now (f ∷ files) (x ∷ texts) (y ∷ told) r t =
    let one : x ≡ y = named_by before f y (λ bytes. x ≡ bytes) t.0.told r.0.whole in
    let more : texts ≡ told = same_texts before now files texts told r.1 t.1 in
    cc
same_texts before now [] (x ∷ texts) told r t = absurd r
same_texts before now [] [] (y ∷ told) r t = absurd t
same_texts before now (f ∷ files) [] told r t = absurd r
same_texts before now (f ∷ files) (x ∷ texts) [] r t = absurd t

-- what is told of each word is told of that at a place
readable_at : (before now : Inputs) (earlier later told : List (List ℕ)) (file : List ℕ) → AreReadable before now (earlier ++ file ∷ later) told → (text : List ℕ) × IsReadable before now file text
readable_at before now [] later (y ∷ told) file t = (y, t.0)
readable_at before now [] later [] file t = absurd t
readable_at before now (f ∷ earlier) later (y ∷ told) file t = readable_at before now earlier later told file t.1
readable_at before now (f ∷ earlier) later [] file t = absurd t

stop_of : (before now : Inputs) (files told : List (List ℕ)) (place : ℕ) (P : List ℕ → Type 0) → AreReadable before now files told → StopsAt before now files place P → (file : List ℕ) × (text : List ℕ) × IsReadable before now file text × P file
stop_of before now files told place P t s =
    let Q : List (List ℕ) → Type 0 = λ fs. AreReadable before now fs told in
    let one = readable_at before now s.earlier s.later told s.file (subst Q s.files_are t) in
    (s.file, one.0, one.1, s.stop)

-- no such file is too long
no_length : (before now : Inputs) (files told : List (List ℕ)) (place : ℕ) → AreReadable before now files told → ¬ IsTooLong before now files place
no_length before now files told place t s =
    let one = stop_of before now files told place (IsLong before) t s in
    let long : max_input < length one.1 = named_by before one.0 one.1 (λ bytes. max_input < length bytes) one.2.told one.3 in
    let short : length one.1 ≤ max_input = one.2.short in
    omega arith

-- nor can it be unreadable
no_read_fault : (before now : Inputs) (files told : List (List ℕ)) → AreReadable before now files told → ¬ HasReadFault before now files
no_read_fault before now files told t h =
    let one = stop_of before now files told h.0 (FaultCause before now) t h.1 in
    one.2.sound (counted before now one.0 one.1 one.2.told one.3)

-- ---- refusals

-- what `clan` takes has a translation
translation_of : (text : List ℕ) (t : clan.Takes text)
    → IsTranslation text (scop_of (parameters_in (names_in text t.nodes)) (arrays_in (names_in text t.nodes)) t.region)
translation_of text t =
    let xs = statements_of text t.nodes in
    let names = names_in text t.nodes in
    let parameters = parameters_in names in
    let arrays = arrays_in names in record {
      nodes = t.nodes;
      parsed = t.parsed;
      translated = ap (λ at. of_names text at names (nodes_of xs)) t.no_clash ∙ ap (of_region text parameters arrays) t.is_region
          ∙ ap (λ refusal. unless_refused refusal (scop_of parameters arrays t.region)) t.no_refusal;
    }

no_clan_refusal : (text : List ℕ) (refusal : Refusal) → clan.Takes text → ¬ clan.Refuses text refusal
no_clan_refusal text refusal t = translated_is_not_refused text _ refusal (translation_of text t)

no_scop_refusal : (text : List ℕ) (S : ScopData) (refusal : Refusal) → IsScopText text S → ¬ scop.Refuses text refusal
no_scop_refusal text S refusal t h = let none : fault text ≡ None = text_has_no_fault text S t in absurd (cc)

no_candl_refusal : (text : List ℕ) (S : ScopData) (refusal : Refusal) → IsScopText text S → IsDecidable S → ¬ candl.Refuses text refusal
no_candl_refusal text S refusal t d (inl h) = no_scop_refusal text S refusal t h
no_candl_refusal text S refusal t d (inr h) =
    let same : h.0 ≡ S = stands_for_one_law text h.0 S h.1 t in
    decidable_is_not_refused S refusal d (subst (λ (T : ScopData). IsRefusal T.context (own_sides T) (entries (own_sides T)) refusal) same h.2)

no_audit_refusal : (text : List ℕ) (S : ScopData) (counts : Counts) (refusal : Refusal) → IsScopText text S → audited S ≡ Ok counts → ¬ audit.Refuses text refusal
no_audit_refusal text S counts refusal t passes (inl h) = no_scop_refusal text S refusal t h
no_audit_refusal text S counts refusal t passes (inr h) =
    let same : h.0 ≡ S = stands_for_one_law text h.0 S h.1 t in
    let refused : audited S ≡ Err refusal = subst (λ (T : ScopData). audited T ≡ Err refusal) same h.2 in
    absurd (cc)

no_clay_refusal : (first second : List ℕ) (place : ℕ) (refusal : Refusal) → clay.Takes first second → ¬ clay.Refuses first second place refusal
no_clay_refusal first second place refusal t (inl h) = script_has_no_fault first t.script refusal t.texts.script_text.text_is t.texts.script_text.few h.1
no_clay_refusal first second place refusal t (inr (inl h)) = no_scop_refusal second t.scop refusal t.texts.scop_text h.1.fault_is
no_clay_refusal first second place refusal t (inr (inr h)) =
    let r = h.1 in
    let same_script : r.script ≡ t.script = one_script first r.script t.script r.texts.script_text.few t.texts.script_text.few r.texts.script_text.text_is t.texts.script_text.text_is in
    let same_scop : r.scop ≡ t.scop = stands_for_one_law second r.scop t.scop r.texts.scop_text t.texts.scop_text in
    let refused : IsScriptRefused t.scop t.script refusal =
    subst (λ S. IsScriptRefused S t.script refusal) same_scop (subst (λ c. IsScriptRefused r.scop c refusal) same_script r.refused) in
    clear_is_not_refused t.scop t.script refusal t.unrefused t.clear refused

-- what one text excludes, a list of one does
one_excludes : (P Q : List ℕ → Type 0) → ((text : List ℕ) → P text → ¬ Q text) → (texts : List (List ℕ)) → OfOne P texts → ¬ OfOne Q texts
one_excludes P Q none [] p q = p
one_excludes P Q none (text ∷ []) p q = none text p q
one_excludes P Q none (text ∷ (more ∷ texts)) p q = p

two_exclude : (P Q : List ℕ → List ℕ → Type 0) → ((first second : List ℕ) → P first second → ¬ Q first second) → (texts : List (List ℕ)) → OfTwo P texts → ¬ OfTwo Q texts
two_exclude P Q none [] p q = p
two_exclude P Q none (a ∷ []) p q = p
two_exclude P Q none (a ∷ (b ∷ [])) p q = none a b p q
two_exclude P Q none (a ∷ (b ∷ (more ∷ texts))) p q = p

-- texts that a command takes are not refused
not_refused : (command : Command) (texts : List (List ℕ)) (place : ℕ) (refusal : Refusal) → Takes command texts → ¬ Refuses command texts place refusal
not_refused (Clan file) texts place refusal t h = one_excludes clan.Takes (λ text. clan.Refuses text refusal) (λ text. no_clan_refusal text refusal) texts t h.1
not_refused (Scop file) texts place refusal t h = one_excludes scop.Takes (λ text. scop.Refuses text refusal) (λ text p. no_scop_refusal text p.0 refusal p.1) texts t h.1
not_refused (Candl file) texts place refusal t h = one_excludes candl.Takes (λ text. candl.Refuses text refusal) (λ text p. no_candl_refusal text p.0 refusal p.1 p.2) texts t h.1
not_refused (Audit file) texts place refusal t h = one_excludes audit.Takes (λ text. audit.Refuses text refusal) (λ text p. no_audit_refusal text p.0 p.1 refusal p.2 p.3) texts t h.1
not_refused (Clay script file) texts place refusal t h =
    two_exclude clay.Takes (λ first second. clay.Refuses first second place refusal) (λ first second. no_clay_refusal first second place refusal) texts t h
not_refused (Chlore original target) texts place refusal t h =
    two_exclude chlore.Takes (λ first second. chlore.Refuses first second place refusal) (λ first second. no_chlore_refusal first second place refusal) texts t h
not_refused (Demo loops) texts place refusal t h = taken_is_not_refused loops refusal t h.1

-- what no text has, no list of one has
none_of_one : (P : List ℕ → Type 0) → ((text : List ℕ) → ¬ P text) → (texts : List (List ℕ)) → ¬ OfOne P texts
none_of_one P none [] h = h
none_of_one P none (text ∷ []) h = none text h
none_of_one P none (text ∷ (more ∷ texts)) h = h

candl_not_too_long : (text : List ℕ) → ¬ candl.Refuses text TooLong
candl_not_too_long text (inl h) = fault_is_not_too_long_law text h
candl_not_too_long text (inr h) = h.2

none_of_two : (P : List ℕ → List ℕ → Type 0) → ((first second : List ℕ) → ¬ P first second) → (texts : List (List ℕ)) → ¬ OfTwo P texts
none_of_two P none [] h = h
none_of_two P none (a ∷ []) h = h
none_of_two P none (a ∷ (b ∷ [])) h = none a b h
none_of_two P none (a ∷ (b ∷ (more ∷ texts))) h = h

script_not_too_long : (S : ScopData) (script : List ScriptCommand) → ¬ IsScriptRefused S script TooLong
script_not_too_long S script (inl h) = script_says_no_length S script h
script_not_too_long S script (inr h) = h.stopped

clay_not_too_long : (first second : List ℕ) (place : ℕ) → ¬ clay.Refuses first second place TooLong
clay_not_too_long first second place (inl h) = fault_is_no_length first h.1
clay_not_too_long first second place (inr (inl h)) = fault_is_not_too_long_law second h.1.fault_is
clay_not_too_long first second place (inr (inr h)) = script_not_too_long h.1.scop h.1.script h.1.refused

demo_not_too_long : (loops : ℕ) → ¬ demo.Refuses loops TooLong
demo_not_too_long loops (inl h) = refuses_no_length (demo_text loops) h
demo_not_too_long loops (inr (inl h)) = h.refused
demo_not_too_long loops (inr (inr (inl h))) = script_not_too_long h.scop (demo_script loops) h.refused
demo_not_too_long loops (inr (inr (inr h))) = says_no_length h.scop (demo.after_demo loops h.scop) h.refused

audit_not_too_long : (text : List ℕ) → ¬ audit.Refuses text TooLong
audit_not_too_long text (inl h) = fault_is_not_too_long_law text h
audit_not_too_long text (inr h) = audit_says_no_length h.0 h.2

-- no command refuses a text as too long
never_long : (command : Command) (texts : List (List ℕ)) (place : ℕ) → ¬ Refuses command texts place TooLong
never_long (Clan file) texts place h = none_of_one (λ text. clan.Refuses text TooLong) refuses_no_length texts h.1
never_long (Scop file) texts place h = none_of_one (λ text. scop.Refuses text TooLong) fault_is_not_too_long_law texts h.1
never_long (Candl file) texts place h = none_of_one (λ text. candl.Refuses text TooLong) candl_not_too_long texts h.1
never_long (Audit file) texts place h = none_of_one (λ text. audit.Refuses text TooLong) audit_not_too_long texts h.1
never_long (Clay script file) texts place h = none_of_two (λ first second. clay.Refuses first second place TooLong) (λ first second. clay_not_too_long first second place) texts h
never_long (Chlore original target) texts place h = none_of_two (λ first second. chlore.Refuses first second place TooLong) (λ first second. chlore_not_too_long first second place) texts h
never_long (Demo loops) texts place h = demo_not_too_long loops h.1

cause_unless_long : (command : Command) (before now : Inputs) (place : ℕ) (refusal : Refusal) → ¬ (refusal ≡ TooLong) → IsRefused command before now place refusal → RefusalCause command before now place refusal
cause_unless_long command before now place TooLong other h = absurd (other refl)
cause_unless_long command before now place refusal other h = h

-- texts that were read and are refused have their cause
cause_of : (command : Command) (before now : Inputs) (place : ℕ) (refusal : Refusal) → IsRefused command before now place refusal → RefusalCause command before now place refusal
cause_of command before now place refusal h =
    let other : ¬ (refusal ≡ TooLong) = λ e. never_long command h.texts place (subst (Refuses command h.texts place) e h.refused) in
    cause_unless_long command before now place refusal other h

-- ---- the outcome of a run that made no output

-- a demo that is refused speaks of no file
demo_stops : (texts : List (List ℕ)) (loops : ℕ) (made : Result (List ℕ) Fail) → IfErr made (demo.IsStop loops) → IfErr (made_of 0 made) (StopCause (Demo loops) texts)
demo_stops texts loops (Ok output) h = tt
demo_stops texts loops (Err failure.Memory) h = tt
demo_stops texts loops (Err (failure.Refused refusal)) h = (refl, h)

pub demo_ends : (asked : Work) (texts : List (List ℕ)) (loops : ℕ) (made : Result (List ℕ) Fail) (result : Result (List ℕ) Outcome) → asked ≡ work.Demo loops
    → result ≡ made_of 0 made → IfErr made (demo.IsStop loops) → IfErr result (StopCause (command_of asked) texts)
demo_ends asked texts loops made result is e h =
    let P : Work → Type 0 = λ w. IfErr result (StopCause (command_of w) texts) in
    let Q : Result (List ℕ) Outcome → Type 0 = λ r. IfErr r (StopCause (Demo loops) texts) in
    subst P (sym is) (subst Q (sym e) (demo_stops texts loops made h))

-- the outcome of files that were not all read is the command's
pub unread_answers : (command : Command) (before now : World) (outcome : Outcome) → IsUnwritten before now → ReadingAnswers (files_of command) before.inputs now.inputs outcome → CommandAnswers command before now outcome
unread_answers command before now (Refused place TooLong) u h = (h, u)
unread_answers command before now ReadFault u h = (h, u)
unread_answers command before now Memory u h = u
unread_answers command before now outcome u h = absurd h

-- the outcome of texts that were refused is the command's
pub refused_answers : (command : Command) (before now : World) (texts : List (List ℕ)) (outcome : Outcome) → IsUnwritten before now → AreRead before.inputs now.inputs (files_of command) texts → StopCause command texts outcome
    → CommandAnswers command before now outcome
refused_answers command before now texts (Refused place refusal) u r h = (cause_of command before.inputs now.inputs place refusal (record { texts = texts; read = r; refused = h }), u)
refused_answers command before now texts Memory u r h = u
refused_answers command before now texts outcome u r h = absurd h

-- ---- completeness

-- what a cause says: the length, or the texts that were read
either_cause : (command : Command) (before now : Inputs) (place : ℕ) (refusal : Refusal) → RefusalCause command before now place refusal → IsTooLong before now (files_of command) place ⊎ IsRefused command before now place refusal
either_cause command before now place TooLong h = inl h
either_cause command before now place refusal h = inr h

no_text_refusal : (command : Command) (before now : Inputs) (told : List (List ℕ)) (place : ℕ) (refusal : Refusal) → AreReadable before now (files_of command) told → Takes command told → ¬ IsRefused command before now place refusal
no_text_refusal command before now told place refusal t taken h =
    let same : h.texts ≡ told = same_texts before now (files_of command) h.texts told h.read t in
    let P : List (List ℕ) → Type 0 = λ texts. Refuses command texts place refusal in
    not_refused command told place refusal taken (subst P same h.refused)

-- complete files have no refusal
no_refusal : (command : Command) (before now : Inputs) (told : List (List ℕ)) (place : ℕ) (refusal : Refusal) → AreReadable before now (files_of command) told → Takes command told → ¬ RefusalCause command before now place refusal
no_refusal command before now told place refusal t taken h =
    elim (either_cause command before now place refusal h) [
      | inl long ↦ no_length before now (files_of command) told place t long
      | inr text ↦ no_text_refusal command before now told place refusal t taken text
    ]

-- what the outcome tells of complete files
complete_for : (command : Command) (before now : World) (outcome : Outcome) (told : List (List ℕ)) → AreReadable before.inputs now.inputs (files_of command) told → Takes command told → ¬ IsWriteFaulty before.output now.output
    → CommandAnswers command before now outcome → (outcome ≡ Done) ⊎ (outcome ≡ Memory)
complete_for command before now Done told t k w h = inl refl
complete_for command before now (Refused place refusal) told t k w h = absurd (no_refusal command before.inputs now.inputs told place refusal t k h.0)
complete_for command before now Usage told t k w h = absurd h
complete_for command before now ReadFault told t k w h = absurd (no_read_fault before.inputs now.inputs (files_of command) told t h.0)
complete_for command before now WriteFault told t k w h = absurd (w h.0)
complete_for command before now Memory told t k w h = inr refl

complete_by : (words : List (List ℕ)) (before now : World) (outcome : Outcome) (command : Command) → Words words command → CommandAnswers command before now outcome → Completes words before now outcome
complete_by words before now outcome command asked h k =
    let P : Command → Type 0 = λ c. CommandAnswers c before now outcome in
    complete_for k.command before now outcome k.texts k.readable k.taken k.wrote (subst P (one_command words command k.command asked k.asked) h)

-- what the outcome tells is all that completeness asks
pub complete_of : (words : List (List ℕ)) (before now : World) (outcome : Outcome) → Answers words before now outcome → Completes words before now outcome
complete_of words before now Done h = complete_by words before now Done h.0 h.1 h.2
complete_of words before now (Refused file refusal) h = complete_by words before now (Refused file refusal) h.0 h.1 h.2
complete_of words before now Usage h = λ k. absurd (h.0 k.command k.asked)
complete_of words before now ReadFault h = complete_by words before now ReadFault h.0 h.1 h.2
complete_of words before now WriteFault h = complete_by words before now WriteFault h.0 h.1 h.2
complete_of words before now Memory h = complete_by words before now Memory h.0 h.1 h.2

nothing_wrote : (a c : Option (List ℕ)) → Wrote a [] c → c ≡ a
nothing_wrote None c h = h
nothing_wrote (Some old) c h = h ∙ ap Some (append-nil old)

front_empty : (done rest : List ℕ) → [] ≡ done ++ rest → done ≡ []
front_empty [] rest e = refl
front_empty (x ∷ done) rest e = absurd (cc)

nothing_part : (a c : Option (List ℕ)) → WrotePart a [] c → c ≡ a
nothing_part a c h = let P : List ℕ → Type 0 = λ d. Wrote a d c in nothing_wrote a c (subst P (front_empty h.0 h.1 h.2) h.3)

-- what the message's writer tells is what the outcome asks
reported_ok : (before now : Output) (outcome : Outcome) → Wrote before.written (message outcome) now.written → Reported before now outcome
reported_ok before now Done h = nothing_wrote before.written now.written h
reported_ok before now (Refused file refusal) h = inl h
reported_ok before now Usage h = inl h
reported_ok before now ReadFault h = inl h
reported_ok before now WriteFault h = inl h
reported_ok before now Memory h = inl h

reported_part : (before now : Output) (outcome : Outcome) → IsWriteFaulty before now → WrotePart before.written (message outcome) now.written → Reported before now outcome
reported_part before now Done f h = nothing_part before.written now.written h
reported_part before now (Refused file refusal) f h = inr (f, h)
reported_part before now Usage f h = inr (f, h)
reported_part before now ReadFault f h = inr (f, h)
reported_part before now WriteFault f h = inr (f, h)
reported_part before now Memory f h = inr (f, h)

pub reported_of : {T E : Type 0} (r : Result T E) (before now : Output) (outcome : Outcome) → OnOk r (Wrote before.written (message outcome) now.written)
    → OnErr r (WrotePart before.written (message outcome) now.written) → OnErr r (IsWriteFaulty before now) → Reported before now outcome
reported_of (Ok x) before now outcome ok part cause = reported_ok before now outcome ok
reported_of (Err e) before now outcome ok part cause = reported_part before now outcome cause part
