-- Document 01's fourteen examples hold: one test is computed over the whole table, and mathlib's `decide_iff` turns it into what the rows say.
use Rattle.std.proofs.Common.{◌≡◌, refl, true, List, [], ◌∷◌, Ok, Err}
use Rattle.std.proofs.Math.Bool.{decide, decide_iff}
use Rattle.std.proofs.Math.Decide.{ℕ_discrete}
use mathlib.Core.Logic.Dec
use Rattle.std.specs.Int.Count.{count_leading_zeros}
use Rattle.pages.specs.Bytes.{row, big, bytes_of}
use Rattle.pages.specs.Memory.{write}
use Rattle.interpreter.specs.Words.{sext, sign_extend, bitwise, magnitude, signed, quotient, product}
use Rattle.interpreter.specs.OpcodeMap.{decode, find, found, immediates, loads, stores, branches, jumps, memory, by_opcode, shifts, sums, hilos, jump_registers, others, registers, special, counts, special2, decode_by}
use Rattle.interpreter.specs.Effects.{refusal_number, changes, storing}
use Rattle.interpreter.specs.Alu.{shift_left, shift_signed, shift_signed_by, difference, leading_zeros32, leading_ones32, result}
use Rattle.interpreter.specs.HiLo.{dmultu, dmult, div, divu, overflows, hi_lo}
use Rattle.interpreter.specs.Loads.{lwl, lwr, ldr, loaded}
use Rattle.interpreter.specs.Stores.{put, swr, stored}
use Rattle.interpreter.specs.Kernel.{does_other, does, kernel_def, touching, touch_def}
use Rattle.interpreter.specs.Calls.{mmap, call_of}
use Rattle.interpreter.specs.Machine.{set_reg, counted, changed, onward, cpu_of, state_of, formless}
use Rattle.interpreter.specs.Plan.{changing, call_in, replying, calling, ins_of, touch_of, planned, executing, plan}
use Rattle.interpreter.specs.Layout.{numbers, decode_at, formed_at}
use Rattle.interpreter.specs.Inputs.{same}
use Rattle.interpreter.specs.Recording.{calls, wide, touched}
use Rattle.interpreter.specs.Ideal.{ideal_view, follow, ideal_step}
use Rattle.interpreter.specs.Shown.{effect_shown, plan_shown}
use Rattle.checker.specs.Verdicts.{Verdict}
use Rattle.checker.specs.Verdicts.{Accepted}
use Rattle.checker.specs.Records.{old_in, new_in, word_in, address_in, old_eight, new_eight, touch_in, effect_in, plan_in}
use Rattle.checker.specs.Check.{wrong_length, malformed, exited_in, refused_in, wide_in, misplaced, same_numbers, same_state, differs, applies, first_fault, check_def}
use Rattle.checker.specs.Examples.{result_discrete, Example, executes, accepts, record14, examples, start_regs, step_of, comes, Says, Every}
use Rattle.checker.proofs.Laws.Same.{refused_not}

-- the word's instruction, which only a proof can compare
abbrev Named : Example → Type 0
Named (executes number ins w x regs p r0 r1) = decode w ≡ ins
Named (accepts number r) = Unit {0}

abbrev accepted : (v : Verdict) → Dec (v ≡ Accepted)
accepted (Ok tt) = yes refl
accepted (Err f) = no refused_not

-- the test of a row, and of all rows
abbrev decided : (e : Example) → Named e → Dec (Says e)
decided (executes number ins w x regs p r0 r1) d = Dec.and (yes d) (Dec.and (result_discrete ℕ_discrete (comes p (step_of 0 w x regs)) r0) (result_discrete ℕ_discrete (comes p (step_of 1 w x regs)) r1))
decided (accepts number r) d = accepted (check_def r)

abbrev every : (es : List Example) → Every Named es → Dec (Every Says es)
every [] d = yes tt
every (e ∷ es) (d, ds) = Dec.and (decided e d) (every es ds)

computed : (d : Every Named examples) × (decide (every examples d) ≡ true)
unfolding examples record14 start_regs step_of ideal_step ideal_view counted follow plan executing planned ins_of touch_of touch_def touching changing changed set_reg calling call_in call_of mmap replying onward kernel_def does does_other decode_by special registers special2 by_opcode memory find found immediates loads stores branches jumps shifts sums hilos jump_registers others counts result shift_left shift_signed shift_signed_by difference leading_zeros32 leading_ones32 count_leading_zeros hi_lo dmultu dmult div divu overflows quotient product signed magnitude sext sign_extend bitwise changes storing refusal_number loaded lwl lwr ldr stored swr put row big bytes_of write check_def first_fault applies wrong_length malformed formed_at formless cpu_of state_of decode_at numbers exited_in old_in new_in word_in address_in old_eight new_eight touch_in effect_in plan_in refused_in effect_shown plan_shown touched calls wide_in wide misplaced differs same_state same_numbers same ℕ_discrete Dec.and decide
computed = ((refl, (refl, (refl, (refl, (refl, (refl, (refl, (refl, (refl, (refl, (refl, (refl, (refl, (refl, (refl, (refl, (tt, tt))))))))))))))))), refl)

pub examples_hold : Every Says examples
examples_hold = (decide_iff (every examples computed.0)).0 computed.1
