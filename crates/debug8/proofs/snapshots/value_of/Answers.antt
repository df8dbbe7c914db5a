use Rattle.std.proofs.Common.{◌≡◌, codes, string_bytes, ap, ◌∙◌}
use Rattle.word12.specs.Octal.{octal4}
use Rattle.serde_json.specs.Data.{object}
use Rattle.serde_json.specs.View.{members_view}
use Rattle.serde_json.proofs.OnLiterals.{serde_json_on_literals}
use Rattle.serde_json.proofs.Views.{view-Object}
use Rattle.debug8.specs.Snapshot.{octal1, octal2, octal3}
use Rattle.debug8.proofs.Json.{prefix, put-digits, put-truth}
use Rattle.debug8.proofs.snapshots.value_of.Goals as goal

pub returns : goal.returns
unfolding serde_json_on_literals
returns c =
    let e0 : members_view c.new-members.result.entries ≡ prefix 0 c.args.machine.now = ap members_view c.new-members.ensures.empty in
    let e1 : members_view c.put_digits.new.members.entries ≡ prefix 1 c.args.machine.now =
    put-digits (codes "ac") (string_bytes c.in_ok-ac.ac) (octal4 c.args.machine.now.ac) (members_view c.put_digits.new.members.entries) (members_view c.new-members.result.entries) (prefix 0 c.args.machine.now)
    c.in_ok-put_digits.ensures (c.in_ok-ac.ensures ∙ ap octal4 c.ac.ensures) e0 in
    let e2 : members_view c.put_truth.new.members.entries ≡ prefix 2 c.args.machine.now =
    put-truth (codes "busy") c.is_busy.result c.args.machine.now.teletype.busy (members_view c.put_truth.new.members.entries) (members_view c.put_digits.new.members.entries) (prefix 1 c.args.machine.now)
    c.in_ok-put_truth.ensures c.is_busy.ensures e1 in
    let e3 : members_view c.put_digits-2.new.members.entries ≡ prefix 3 c.args.machine.now =
    put-digits (codes "df") (string_bytes c.in_ok-df.df) (octal1 c.args.machine.now.data_field) (members_view c.put_digits-2.new.members.entries) (members_view c.put_truth.new.members.entries) (prefix 2 c.args.machine.now)
    c.in_ok-put_digits-2.ensures (c.in_ok-df.ensures ∙ ap octal1 c.data_field.ensures.value) e2 in
    let e4 : members_view c.put_truth-2.new.members.entries ≡ prefix 4 c.args.machine.now =
    put-truth (codes "held") c.is_held_off.result c.args.machine.now.held_off (members_view c.put_truth-2.new.members.entries) (members_view c.put_digits-2.new.members.entries) (prefix 3 c.args.machine.now)
    c.in_ok-put_truth-2.ensures c.is_held_off.ensures e3 in
    let e5 : members_view c.put_digits-3.new.members.entries ≡ prefix 5 c.args.machine.now =
    put-digits (codes "ib") (string_bytes c.in_ok-ib.ib) (octal1 c.args.machine.now.instruction_buffer) (members_view c.put_digits-3.new.members.entries) (members_view c.put_truth-2.new.members.entries) (prefix 4 c.args.machine.now)
    c.in_ok-put_digits-3.ensures (c.in_ok-ib.ensures ∙ ap octal1 c.instruction_buffer.ensures.value) e4 in
    let e6 : members_view c.put_digits-4.new.members.entries ≡ prefix 6 c.args.machine.now =
    put-digits (codes "if") (string_bytes c.in_ok-field.field) (octal1 c.args.machine.now.instruction_field) (members_view c.put_digits-4.new.members.entries) (members_view c.put_digits-3.new.members.entries) (prefix 5 c.args.machine.now)
    c.in_ok-put_digits-4.ensures (c.in_ok-field.ensures ∙ ap octal1 c.instruction_field.ensures.value) e5 in
    let e7 : members_view c.put_truth-3.new.members.entries ≡ prefix 7 c.args.machine.now =
    put-truth (codes "ion") c.interrupts_on.result c.args.machine.now.interrupts_on (members_view c.put_truth-3.new.members.entries) (members_view c.put_digits-4.new.members.entries) (prefix 6 c.args.machine.now)
    c.in_ok-put_truth-3.ensures c.interrupts_on.ensures e6 in
    let e8 : members_view c.put_truth-4.new.members.entries ≡ prefix 8 c.args.machine.now =
    put-truth (codes "kbd") c.keyboard_flag.result c.args.machine.now.teletype.keyboard_flag (members_view c.put_truth-4.new.members.entries) (members_view c.put_truth-3.new.members.entries) (prefix 7 c.args.machine.now)
    c.in_ok-put_truth-4.ensures c.keyboard_flag.ensures e7 in
    let e9 : members_view c.put_digits-5.new.members.entries ≡ prefix 9 c.args.machine.now =
    put-digits (codes "key") (string_bytes c.in_ok-key.key) (octal3 c.args.machine.now.teletype.buffer) (members_view c.put_digits-5.new.members.entries) (members_view c.put_truth-4.new.members.entries) (prefix 8 c.args.machine.now)
    c.in_ok-put_digits-5.ensures (c.in_ok-key.ensures ∙ ap octal3 c.keyboard_buffer.ensures) e8 in
    let e10 : members_view c.put_digits-6.new.members.entries ≡ prefix 10 c.args.machine.now =
    put-digits (codes "l") (string_bytes c.in_ok-l.l) (octal1 c.args.machine.now.l) (members_view c.put_digits-6.new.members.entries) (members_view c.put_digits-5.new.members.entries) (prefix 9 c.args.machine.now)
    c.in_ok-put_digits-6.ensures (c.in_ok-l.ensures ∙ ap octal1 c.l.ensures.value) e9 in
    let e11 : members_view c.put_digits-7.new.members.entries ≡ prefix 11 c.args.machine.now =
    put-digits (codes "pc") (string_bytes c.in_ok-pc.pc) (octal4 c.args.machine.now.pc) (members_view c.put_digits-7.new.members.entries) (members_view c.put_digits-6.new.members.entries) (prefix 10 c.args.machine.now)
    c.in_ok-put_digits-7.ensures (c.in_ok-pc.ensures ∙ ap octal4 c.pc.ensures) e10 in
    let e12 : members_view c.put_truth-5.new.members.entries ≡ prefix 12 c.args.machine.now =
    put-truth (codes "printer") c.printer_flag.result c.args.machine.now.teletype.printer_flag (members_view c.put_truth-5.new.members.entries) (members_view c.put_digits-7.new.members.entries) (prefix 11 c.args.machine.now)
    c.in_ok-put_truth-5.ensures c.printer_flag.ensures e11 in
    let e13 : members_view c.put_truth-6.new.members.entries ≡ prefix 13 c.args.machine.now =
    put-truth (codes "run") c.is_running.result c.args.machine.now.running (members_view c.put_truth-6.new.members.entries) (members_view c.put_truth-5.new.members.entries) (prefix 12 c.args.machine.now)
    c.in_ok-put_truth-6.ensures c.is_running.ensures e12 in
    let e14 : members_view c.put_digits-8.new.members.entries ≡ prefix 14 c.args.machine.now =
    put-digits (codes "sf") (string_bytes c.in_ok-sf.sf) (octal2 c.args.machine.now.save_field) (members_view c.put_digits-8.new.members.entries) (members_view c.put_truth-6.new.members.entries) (prefix 13 c.args.machine.now)
    c.in_ok-put_digits-8.ensures (c.in_ok-sf.ensures ∙ ap octal2 c.save_field.ensures.value) e13 in
    let e15 : members_view c.put_digits-9.new.members.entries ≡ prefix 15 c.args.machine.now =
    put-digits (codes "switches") (string_bytes c.in_ok-switches.switches) (octal4 c.args.machine.now.switches) (members_view c.put_digits-9.new.members.entries) (members_view c.put_digits-8.new.members.entries) (prefix 14 c.args.machine.now)
    c.in_ok-put_digits-9.ensures (c.in_ok-switches.ensures ∙ ap octal4 c.switch_register.ensures) e14 in
    let e16 : members_view c.put_truth-7.new.members.entries ≡ prefix 16 c.args.machine.now =
    put-truth (codes "wait") c.is_waiting.result c.args.machine.now.waiting (members_view c.put_truth-7.new.members.entries) (members_view c.put_digits-9.new.members.entries) (prefix 15 c.args.machine.now)
    c.in_ok-put_truth-7.ensures c.is_waiting.ensures e15 in
    view-Object c.put_truth-7.new.members ∙ ap object e16
