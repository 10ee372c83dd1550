mod LookedAt
