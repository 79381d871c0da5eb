use Rattle.rv_machine.proofs.Bytes.{on_ok}
use Rattle.rv_machine.proofs.Stored.{byte_done, half_done, word_done}
use Rattle.rv_machine.proofs.memory.Memory.store.Goals as goal

pub returns-in-Byte-clause-ok : goal.returns-in-Byte-clause-ok
returns-in-Byte-clause-ok c =
    on_ok _ _ c.store_bytes.result (byte_done c.args.kind c.args.self.now c.store_bytes.new.self c.args.address c.args.value c.to_le_bytes-bytes.result c.to_le_bytes-bytes.ensures c.requires c.in-Byte.is)
    c.store_bytes.ensures.ok

pub returns-in-Half-clause-ok : goal.returns-in-Half-clause-ok
returns-in-Half-clause-ok c =
    on_ok _ _ c.store_bytes-in-Half.result (half_done c.args.kind c.args.self.now c.store_bytes-in-Half.new.self c.args.address c.args.value c.to_le_bytes-bytes.result c.to_le_bytes-bytes.ensures c.requires c.in-Half.is)
    c.store_bytes-in-Half.ensures.ok

pub returns-in-Word-clause-ok : goal.returns-in-Word-clause-ok
returns-in-Word-clause-ok c =
    on_ok _ _ c.store_bytes-in-Word.result (word_done c.args.kind c.args.self.now c.store_bytes-in-Word.new.self c.args.address c.args.value c.to_le_bytes-bytes.result c.to_le_bytes-bytes.ensures c.requires c.in-Word.is)
    c.store_bytes-in-Word.ensures.ok
