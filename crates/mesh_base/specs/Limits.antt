-- The limits that the programs use.
use Rattle.mesh_base.specs.declared.limits.Limits.{Limits}

-- bytes of a line, objects held, live subscriptions, open links, those of them that are feeds, addresses of a message,
-- bytes of a message, bytes of an input, bytes of a request frame
abbrev pub usual_limits : Limits
usual_limits = record { line = 67108864; objects = 100000; subs = 10000; links = 1024; feeds = 8; frame_addrs = 1000; message = 4194304; input = 4294967296; request = 65536 }
